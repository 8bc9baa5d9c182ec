-- Searches over slots from the first on.
use Rattle.std.specs.Prelude.{ℕ, ◌≡◌, ◌<◌, ◌^◌, Bool, true, false, List, [], ◌∷◌, Option, Some, None}
use Rattle.std.specs.Prelude.{if◌then◌else◌}
use Rattle.memory_structs.specs.declared.range.FrameRange.{FrameRange}
use Rattle.model.specs.Lists.{Slot, unused, used, later}
use Rattle.pairs.specs.Pairs.{range_slot}

-- the first slot that passes
unfoldable pub first_slot : (Slot → Bool) → List Slot → Option ℕ
first_slot q [] = None
first_slot q (x ∷ s) = if q x then Some 0 else later (first_slot q s)

-- a test of a range, as one of a slot: no unused slot passes
abbrev pub passes : (FrameRange → Bool) → Slot → Bool
passes p unused = false
passes p (used r) = p r

abbrev pub is_unused : Slot → Bool
is_unused unused = true
is_unused (used r) = false

-- where the first slot that is not used stands
abbrev pub first_unused : List Slot → Option ℕ
first_unused s = first_slot is_unused s

-- a test in code says of a pair of words what p says of its slot
abbrev pub Tests : (FrameRange → Bool → Type 0) → (Slot → Bool) → Type 0
Tests post p = (r : FrameRange) (b : Bool) → r.start < 2 ^ 64 → r.end < 2 ^ 64 → post r b → b ≡ p (range_slot r)
