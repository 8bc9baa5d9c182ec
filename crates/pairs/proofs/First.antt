-- A search over slots from the first on.
use mathlib.Core.Path.{◌≡◌, refl, sym, ap, ◌∙◌}
use mathlib.Core.Bool.{Bool, true, false}
use mathlib.Core.List.{List, [], ◌∷◌}
use Prim.Native.Nat.{ℕ, zero, suc, ◌+◌, ◌≤◌, ◌<◌}
use native.Mathlib.Nat.{add-zero, zero-add}
use native.Mathlib.Numerals.{add-one}
use native.Mathlib.Omega.{arith}
use lib.ListN.{length, drop, get_or, set, drop_of_length-le}
use lib.Seq.{drop-cons}
use Rattle.model.proofs.Forms.{remove_set}
use Rattle.std.specs.Prelude.{if◌then◌else◌}
use Rattle.std.specs.Prelude.{is_some}
use lib.Dec.{ltb}
use borrow.Author.Tests.{lt-ltb, le-ltb, ltb-true, ltb-false}
use Rattle.model.proofs.Plainly.{fewer_entries}
use Rattle.model.specs.Lists.{Slot, unused, used, entries, later, first_where, insert_early, remove}
use Rattle.std.specs.Prelude.{Option}
use Rattle.std.specs.Prelude.{None, Some}
use Rattle.memory_structs.specs.declared.range.FrameRange.{FrameRange}
use Rattle.pairs.specs.Searches.{first_slot, first_unused, passes}

pub where_is : (p : FrameRange → Bool) (s : List Slot) → first_where p s ≡ first_slot (passes p) s
unfolding first_where first_slot
where_is p [] = refl
where_is p (unused ∷ s) = ap later (where_is p s)
where_is p (used r ∷ s) = ap (λ (q : Option ℕ). if p r then Some 0 else later q) (where_is p s)

-- a place found i slots further on
unfoldable pub onward : ℕ → Option ℕ → Option ℕ
onward i None = None
onward i (Some j) = Some (i + j)

onward_later : (i : ℕ) (q : Option ℕ) → onward i (later q) ≡ onward (i + 1) q
unfolding onward later
onward_later i None = refl
onward_later i (Some j) = let e : i + suc j ≡ i + 1 + j = omega arith in ap Some e

onward_none : (q : Option ℕ) → onward 0 q ≡ q
unfolding onward
onward_none None = refl
onward_none (Some j) = ap Some (zero-add j)

module _ (q : Slot → Bool) (s : List Slot) where
  pub first_starts : first_slot q s ≡ onward 0 (first_slot q (drop 0 s))
  first_starts = sym (onward_none (first_slot q s))

  -- one turn, with what held at the slot i
  pub first_passes : (i : ℕ) → i < length s → q (get_or s i unused) ≡ false → first_slot q s ≡ onward i (first_slot q (drop i s)) → first_slot q s ≡ onward (i + 1) (first_slot q (drop (i + 1) s))
  unfolding first_slot
  first_passes i h e inv =
      inv ∙ ap (λ (l : List Slot). onward i (first_slot q l)) (drop-cons s i unused h) ∙ rw (e, add-one i) (onward_later i (first_slot q (drop (suc i) s)) ∙ rw (add-one i))

  pub first_stops : (i : ℕ) → i < length s → q (get_or s i unused) ≡ true → first_slot q s ≡ onward i (first_slot q (drop i s)) → Some i ≡ first_slot q s
  unfolding first_slot onward
  first_stops i h e inv = sym (inv ∙ ap (λ (l : List Slot). onward i (first_slot q l)) (drop-cons s i unused h) ∙ rw e (ap Some (add-zero i)))

  pub first_ends : (i : ℕ) → length s ≤ i → first_slot q s ≡ onward i (first_slot q (drop i s)) → None ≡ first_slot q s
  unfolding first_slot onward
  first_ends i h inv = sym (inv ∙ ap (λ (l : List Slot). onward i (first_slot q l)) (drop_of_length-le s h))

-- the early insert, by where the first slot that is not used stands
later_at : (q : Option ℕ) (i : ℕ) → later q ≡ Some (suc i) → q ≡ Some i
unfolding later
later_at None i e = absurd (let z : ◌≡◌ {A = ℕ} 0 1 = cc in omega arith)
later_at (Some j) i e = cc

later_zero : (q : Option ℕ) → later q ≡ Some 0 → ⊥
unfolding later
later_zero None e = let z : ◌≡◌ {A = ℕ} 0 1 = cc in omega arith
later_zero (Some j) e = let z : suc j ≡ 0 = cc in omega arith

later_nowhere : (q : Option ℕ) → later q ≡ None → q ≡ None
unfolding later
later_nowhere None e = refl
later_nowhere (Some j) e = absurd (let z : ◌≡◌ {A = ℕ} 0 1 = cc in omega arith)

pub insert_at_holds : (r : FrameRange) (s : List Slot) (i : ℕ) → first_unused s ≡ Some i → insert_early r s ≡ set s i (used r)
unfolding first_slot insert_early
insert_at_holds r [] i e = refl
insert_at_holds r (unused ∷ s) zero e = refl
insert_at_holds r (unused ∷ s) (suc i) e = absurd (let z : 0 ≡ suc i = cc in omega arith)
insert_at_holds r (used x ∷ s) zero e = absurd (later_zero (first_unused s) e)
insert_at_holds r (used x ∷ s) (suc i) e = ap (λ (l : List Slot). used x ∷ l) (insert_at_holds r s i (later_at (first_unused s) i e))

pub insert_full : (r : FrameRange) (s : List Slot) → first_unused s ≡ None → insert_early r s ≡ s
unfolding first_slot insert_early
insert_full r [] e = refl
insert_full r (unused ∷ s) e = absurd (let z : ◌≡◌ {A = ℕ} 0 1 = cc in omega arith)
insert_full r (used x ∷ s) e = ap (λ (l : List Slot). used x ∷ l) (insert_full r s (later_nowhere (first_unused s) e))

pub unused_bound : (s : List Slot) (i : ℕ) → first_unused s ≡ Some i → i < length s
unfolding first_slot
unused_bound [] i e = absurd (let z : ◌≡◌ {A = ℕ} 0 1 = cc in omega arith)
unused_bound (unused ∷ s) i e = let z : 0 ≡ i = cc in omega arith
unused_bound (used x ∷ s) zero e = absurd (later_zero (first_unused s) e)
unused_bound (used x ∷ s) (suc i) e = omega (arith, unused_bound s i (later_at (first_unused s) i e))

pub remove_is : (s : List Slot) (i : ℕ) → i < length s → remove false i 1 s ≡ set s i unused
unfolding remove
remove_is s i h = remove_set i s

-- a slot is not used just where there are fewer entries than slots
later_some : (q : Option ℕ) → is_some (later q) ≡ is_some q
unfolding later
later_some None = refl
later_some (Some i) = refl

one_more : (m n : ℕ) → ltb m n ≡ ltb (suc m) (suc n)
one_more m n = go (ltb m n) refl
  where
    go : (b : Bool) → ltb m n ≡ b → b ≡ ltb (suc m) (suc n)
    go true e = sym (lt-ltb _ _ (omega (arith, ltb-true m n e)))
    go false e = sym (le-ltb _ _ (omega (arith, ltb-false m n e)))

pub unused_left : (s : List Slot) → is_some (first_unused s) ≡ ltb (length (entries s)) (length s)
unfolding first_slot entries
unused_left [] = refl
unused_left (unused ∷ s) = sym (lt-ltb _ _ (omega (arith, fewer_entries s)))
unused_left (used r ∷ s) = later_some (first_unused s) ∙ unused_left s ∙ one_more (length (entries s)) (length s)
