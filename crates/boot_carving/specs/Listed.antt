-- A list in an array: of ranges in one of 32 places, and of anything in one of `size`.
use Rattle.std.specs.Prelude.{◌≡◌, ◌++◌, ◌-◌, ◌≤◌, ℕ, List, length, take, drop, replicate}
use Rattle.std.proofs.Common.{sym, ap, subst, ◌∙◌, length-take-le, take-append-drop}
use Rattle.memory_structs.specs.declared.range.FrameRange.{FrameRange}

-- what a contract sees of a list of ranges: the ranges, in order
pub record Ranges : Type 0 where
  pub items : List FrameRange

-- of `size` places, the first hold the items, and the others a blank one
pub record ListedIn {A : Type 0} (size : ℕ) (blank : A) (len : ℕ) (places : List A) : Type 0 where
  pub sized : length places ≡ size
  pub few : len ≤ size
  pub rest : drop len places ≡ replicate (size - len) blank

-- such an array gives its list back: the laws that `inverse_ok` names, here since code names nothing of proofs/
module _ {A : Type 0} {size : ℕ} {blank : A} {len : ℕ} {places : List A} (h : ListedIn size blank len places) where
  pub counted : length (take len places) ≡ len
  counted = length-take-le len places (subst (λ (n : ℕ). len ≤ n) (sym h.sized) h.few)

  pub refilled : take len places ++ replicate (size - length (take len places)) blank ≡ places
  refilled =
      ap (λ (n : ℕ). take len places ++ replicate (size - n) blank) counted
      ∙ ap (λ (t : List A). take len places ++ t) (sym h.rest)
      ∙ take-append-drop len places
