-- A grant from an early list, step by step: what each step leaves is sound, so that its pairs are read back.
use Prim.Native.Nat.{ℕ, ◌+◌, ◌-◌, ◌≤◌}
use native.Mathlib.Omega.{arith}
use mathlib.Core.Path.{◌≡◌, refl, sym, ap, ◌∙◌}
use mathlib.Core.Bool.{true, false}
use mathlib.Core.List.{List}
use lib.Dec.{ltb}
use borrow.Author.Tests.{ltb-true}
use Rattle.memory_structs.specs.Range.{range, top}
use Rattle.memory_structs.specs.declared.range.FrameRange.{FrameRange}
use Rattle.memory_structs.proofs.Bools.{if_cases}
use Rattle.model.specs.Lists.{Slot, remove}
use Rattle.model.specs.Requests.{put_before, put_after, grant_from}
use Rattle.model.specs.Rules.{tidy}
use Rattle.model.specs.Store.{slot_words}
use Rattle.model.proofs.Lawful.{Shape, insert_shape, remove_shape, low_at}
use Rattle.model.proofs.Ruled.{tidy_is}
use Rattle.pairs.specs.Pairs.{pair_slots, IsPairs}
use Rattle.pairs.proofs.Pairs.{slots_again, are_pairs}
use Rattle.request_search.specs.declared.Chosen.{Chosen}
use Rattle.request_grants.specs.Grants.{Chooses, grant_of}

module _ (ws : List ℕ) (c : Chosen) (asked : FrameRange) (tidied : tidy false (pair_slots 32 ws) ≡ true) (chosen : Chooses false (pair_slots 32 ws) c asked) where
  abbrev slots : List Slot
  slots = pair_slots 32 ws

  abbrev chunk : FrameRange
  chunk = c.range

  abbrev request : FrameRange
  request = asked

  abbrev emptied : List Slot
  emptied = remove false c.first 1 slots

  abbrev with_before : List Slot
  with_before = put_before false chunk request emptied

  shape : Shape false slots
  shape = (tidy_is false slots tidied).shape

  low : c.range.end ≤ top
  low = omega (arith, chosen.ends, low_at (c.first + (c.many - 1)) slots shape.sound)

  empty_shape : Shape false emptied
  unfolding remove
  empty_shape = remove_shape false c.first slots shape

  before_shape : Shape false with_before
  unfolding put_before
  before_shape =
      if_cases (Shape false) (ltb c.range.start asked.start)
      (λ e. insert_shape false (range c.range.start (asked.start - 1)) emptied (record { filled = omega (arith, ltb-true c.range.start asked.start e); low = omega (arith, low, chosen.filled, chosen.to) }) empty_shape)
      (λ e. empty_shape)

  granted : put_after false chunk request with_before ≡ grant_of false c asked slots
  unfolding grant_of grant_from
  granted = ap (λ (k : ℕ). put_after false chunk request (put_before false chunk request (remove false c.first k slots))) (sym (chosen.one refl))

  module _ {w₁ : List ℕ} (p : w₁ ≡ slot_words emptied) where
    pub pairs_emptied : IsPairs w₁
    pairs_emptied = are_pairs emptied empty_shape p

    module _ {w₂ : List ℕ} (q : w₂ ≡ slot_words (put_before false chunk request (pair_slots 32 w₁))) where
      second : w₂ ≡ slot_words with_before
      second = q ∙ ap (λ (s : List Slot). slot_words (put_before false chunk request s)) (ap (pair_slots 32) p ∙ slots_again emptied empty_shape)

      pub pairs_before : IsPairs w₂
      pairs_before = are_pairs with_before before_shape second

      pub all_steps : {w₃ : List ℕ} → w₃ ≡ slot_words (put_after false chunk request (pair_slots 32 w₂)) → w₃ ≡ slot_words (grant_of false c asked slots)
      all_steps e =
          e
          ∙ ap (λ (s : List Slot). slot_words (put_after false chunk request s)) (ap (pair_slots 32) second ∙ slots_again with_before before_shape)
          ∙ ap slot_words granted
