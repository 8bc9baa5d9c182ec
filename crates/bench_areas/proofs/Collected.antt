-- One area more.
use native.Mathlib.Omega.{arith}
use Prim.Native.Nat.{◌+◌, ◌≤◌, ◌<◌}
use mathlib.Core.Path.{◌≡◌, refl, ◌∙◌}
use mathlib.Core.Bool.{cond, not}
use mathlib.Core.List.{List, [], ◌∷◌, ◌++◌}
use lib.ListN.{length}
use Rattle.std.proofs.lemmas.List.Filters.{length-filter_both}
use Rattle.std.proofs.lemmas.List.Sums.{sum_by-append, length-filter}
use Rattle.model.specs.declared.Area.{Area}
use Rattle.model.specs.declared.Kind.{Kind}
use Rattle.model.specs.declared.Kind.TheVariants.{General, Reserved}
use Rattle.model.specs.Words.{kind_of_word, word_of}
use Rattle.bench_areas.specs.Areas.{Few, same_kind, how_many}

-- of `word_of` (model/specs/Words): the word that stands for a kind is read as this kind
pub kind_back : (k : Kind) → kind_of_word (word_of k) ≡ k
unfolding kind_of_word word_of
kind_back General = refl
kind_back Reserved = refl

-- each area is of one of two kinds
both_kinds : (areas : List Area) → how_many General areas + how_many Reserved areas ≡ length areas
unfolding how_many same_kind
both_kinds areas =
    omega (
      arith,
      length-filter_both (λ a. same_kind a.kind General) (λ a. same_kind a.kind Reserved) (λ a. other a.kind) areas,
      length-filter (λ a. same_kind a.kind General) areas,
      length-filter (λ a. same_kind a.kind Reserved) areas,
    )
  where
    other : (k : Kind) → same_kind k Reserved ≡ not (same_kind k General)
    other General = refl
    other Reserved = refl

-- one more counts for its own kind
more : (k : Kind) (areas : List Area) (a : Area) → how_many k (areas ++ (a ∷ [])) ≡ how_many k areas + cond (same_kind a.kind k) 1 0
unfolding how_many
more k areas a = sum_by-append (λ x. cond (same_kind x.kind k) 1 0) areas (a ∷ []) ∙ omega arith

pub all_there : (k : Kind) (areas : List Area) → Few areas → 64 ≤ how_many k areas → how_many k areas ≡ 64
all_there k areas few many = omega (arith, few k, many)

module _ (a : Area) (areas : List Area) (few : Few areas) (under : how_many a.kind areas < 64) where
  pub has_place : length areas < 128
  has_place = go a.kind under
    where
      go : (k : Kind) → how_many k areas < 64 → length areas < 128
      go General h = omega (arith, both_kinds areas, few Reserved)
      go Reserved h = omega (arith, both_kinds areas, few General)

  pub still_few : Few (areas ++ (a ∷ []))
  unfolding same_kind
  still_few k = omega (arith, more k areas a, go a.kind k under)
    where
      go : (j k : Kind) → how_many j areas < 64 → how_many k areas + cond (same_kind j k) 1 0 ≤ 64
      go General General h = omega arith
      go General Reserved h = omega (arith, few Reserved)
      go Reserved General h = omega (arith, few General)
      go Reserved Reserved h = omega arith
