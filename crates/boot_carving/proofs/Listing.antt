-- A list in an array: one more goes in at the end.
use Rattle.std.proofs.Common.{◌≡◌, ℕ, ◌+◌, ◌-◌, ◌<◌, List, ◌++◌, length, take, drop, replicate, slice_set, length-set, drop-set-lt, drop-drop, take_at, sym, ap, ◌∙◌, arith}
use Rattle.memory_structs.specs.declared.range.FrameRange.{FrameRange}
use Rattle.std.proofs.lemmas.List.{drop-replicate}
use Rattle.boot_carving.specs.Listed.{ListedIn}

pub one_more : {A : Type 0} {size : ℕ} {blank : A} {len : ℕ} {places : List A} (x : A) → ListedIn size blank len places → len < size → ListedIn size blank (len + 1) (slice_set places len x)
one_more {A} {size} {blank} {len} {places} x h room = record {
  sized = length-set places len x ∙ h.sized;
  few = omega arith;
  rest =
      drop-set-lt (len + 1) places len x (omega arith)
      ∙ sym (drop-drop 1 len places)
      ∙ ap (drop 1) h.rest
      ∙ drop-replicate 1 (size - len) blank
      ∙ ap (λ (n : ℕ). replicate n blank) (omega arith);
}

-- a full list is the first 32 of it and what has no place
pub none_more : (p q : List FrameRange) → length p ≡ 32 → p ≡ take 32 (p ++ q)
none_more p q e = sym (take_at p q 32 e)
