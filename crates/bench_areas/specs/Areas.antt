-- Areas that are collected. The words in quotes are document 01's.
use Rattle.std.specs.Prelude.{ℕ, ◌≤◌, Bool, true, false, List}
use Rattle.std.specs.List.{count_by}
use Rattle.model.specs.declared.Area.{Area}
use Rattle.model.specs.declared.Kind.{Kind}
use Rattle.model.specs.declared.Kind.TheVariants.{General, Reserved}

unfoldable pub same_kind : Kind → Kind → Bool
same_kind General General = true
same_kind General Reserved = false
same_kind Reserved General = false
same_kind Reserved Reserved = true

-- how many areas of a kind there are
unfoldable pub how_many : Kind → List Area → ℕ
how_many k areas = count_by (λ a. same_kind a.kind k) areas

-- "collect areas (64 each)": so 128 have room
abbrev pub Few : List Area → Type 0
Few areas = (k : Kind) → how_many k areas ≤ 64
