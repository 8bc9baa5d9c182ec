-- What the search in the slots answers.
use Prim.Native.Nat.{ℕ, ◌<◌}
use mathlib.Core.Path.{◌≡◌, sym, ap, subst}
use mathlib.Core.Bool.{false}
use mathlib.Core.List.{List}
use lib.ListN.{length}
use Rattle.memory_structs.specs.Range.{inside}
use Rattle.memory_structs.specs.declared.range.FrameRange.{FrameRange}
use Rattle.model.specs.Lists.{Slot, first_where, range_at}
use Rattle.std.specs.Prelude.{Option}
use Rattle.std.specs.Prelude.{None, Some}
use Rattle.std.specs.Prelude.{Err}
use Rattle.model.specs.Requests.{chunks, find, in_early}
use Rattle.model.specs.declared.refusals.Refusal.TheVariants.{NotFound}
use Rattle.model.proofs.Cover.{Hit, first_hit}
use Rattle.model.proofs.Growth.{used_below}
use Rattle.request_search.specs.Searches.{answer_of}

module _ (r : FrameRange) (s : List Slot) where
  -- a place that a search answers is one of the list's
  pub first_bound : (i : ℕ) → Some i ≡ first_where (λ c. inside c r) s → i < length s
  unfolding Hit
  first_bound i e = used_below s i (subst (Hit (λ c. inside c r) s) (sym e) (first_hit (λ c. inside c r) s)).1

  placed : (q : Option ℕ) → q ≡ first_where (λ c. inside c r) s → answer_of (in_early s q) ≡ answer_of (find false r s)
  unfolding find
  placed q h = ap (λ (o : Option ℕ). answer_of (in_early s o)) h

  pub slot_holds : (i : ℕ) → Some i ≡ first_where (λ c. inside c r) s → answer_of (chunks i 1 (range_at s i)) ≡ answer_of (find false r s)
  unfolding in_early
  slot_holds i h = placed (Some i) h

  pub none_holds : None ≡ first_where (λ c. inside c r) s → Err NotFound ≡ answer_of (find false r s)
  unfolding in_early answer_of
  none_holds h = placed None h
