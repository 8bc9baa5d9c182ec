-- The slots of a record, one by one, and what plain slots say of the pairs of words that they are packed into.
use mathlib.Core.Path.{◌≡◌, refl, sym, ap, ◌∙◌}
use mathlib.Core.Bool.{Bool, true, false, ◌&&◌, false≢true, and_assoc, and-false, and-true}
use lib.Bits.{bit_or, bit_xor, xor_self, xor_assoc, xor_zero_l, xor_zero_r}
use mathlib.Core.List.{List, [], ◌∷◌}
use Prim.Native.Nat.{ℕ, zero, suc, ◌+◌, ◌≤◌, ◌<◌}
use native.Mathlib.Numerals.{add-one}
use native.Mathlib.Omega.{arith}
use lib.ListN.{length, get_or, drop, drop_of_length-le}
use lib.Seq.{drop-cons}
use lib.Dec.{leb, eqb}
use borrow.Author.Tests.{leb-true, eqb-true, eqb-false, eq-eqb, ne_eqb}
use Rattle.tables.proofs.Zeros.{or_zero}
use Rattle.memory_structs.specs.Range.{top}
use Rattle.memory_structs.proofs.Bools.{both_first, both_second}
use Rattle.memory_structs.specs.declared.range.FrameRange.{FrameRange}
use Rattle.model.specs.Lists.{Slot, entries, all_of, disjoint, bound}
use Rattle.model.specs.Rules.{slotted, tidy}
use Rattle.model.specs.Store.{zipped, slots_of, kept_slot, emptied, all_zero}
use Rattle.model.specs.declared.EarlyList.{EarlyList}
use Rattle.model.specs.Store.{Arrays}
use Rattle.pairs.specs.Pairs.{pair_slots}
use Rattle.pairs.proofs.Pairs.{pair_used, pair_unused}
use Rattle.lists.specs.Packed.{interleaved}
use Rattle.rules_early.specs.Slot.{each_slot, plain_slot, plain, all_empty}

-- from the slot i on
abbrev pub each_from : (ℕ → ℕ → ℕ → Bool) → ℕ → EarlyList → Bool
each_from t i l = each_slot t (drop i l.starts) (drop i l.ends) (drop i l.used)

-- the test of the slot i
abbrev pub test_at : (ℕ → ℕ → ℕ → Bool) → ℕ → EarlyList → Bool
test_at t i l = t (get_or l.used i 0) (get_or l.starts i 0) (get_or l.ends i 0)

-- one turn of a loop over the slots, and its end
module _ (t : ℕ → ℕ → ℕ → Bool) (l : EarlyList) (i : ℕ) (n : Arrays l) where
  parts : i < 32 → each_from t i l ≡ (test_at t i l && each_from t (i + 1) l)
  unfolding each_slot
  parts h = rw (drop-cons l.starts i 0 (omega (arith, n.starts)), drop-cons l.ends i 0 (omega (arith, n.ends)), drop-cons l.used i 0 (omega (arith, n.flags)), add-one i)

  pub each_fails : i < 32 → test_at t i l ≡ false → each_from t i l ≡ false
  each_fails h e = parts h ∙ rw e

  pub each_later : i < 32 → test_at t i l ≡ true → each_from t i l ≡ each_from t (i + 1) l
  each_later h e = parts h ∙ rw e

  pub each_done : 32 ≤ i → each_from t i l ≡ true
  unfolding each_slot
  each_done h = rw (drop_of_length-le l.starts {i = i} (omega (arith, n.starts)))

-- a number above 1 is no flag
no_flag : (s e n : ℕ) → kept_slot s e (suc (suc n)) ≡ false
unfolding kept_slot
no_flag s e n = rw (ne_eqb (suc (suc n)) 1 (λ q. omega (arith, q)), ne_eqb (suc (suc n)) 0 (λ q. omega (arith, q)))

-- no slot is used, and each holds [1,0]
idle_each : (ss es us : List ℕ) → length ss ≡ length es → length ss ≡ length us → (all_empty ss es && all_zero us) ≡ (emptied ss es us && all_zero us)
unfolding emptied all_zero all_empty kept_slot
idle_each [] [] [] p q = refl
idle_each [] [] (u ∷ us) p q = absurd (omega arith)
idle_each [] (e ∷ es) us p q = absurd (omega arith)
idle_each (s ∷ ss) [] us p q = absurd (omega arith)
idle_each (s ∷ ss) (e ∷ es) [] p q = absurd (omega arith)
idle_each (s ∷ ss) (e ∷ es) (zero ∷ us) p q =
    and_assoc (eqb s 1 && eqb e 0) (all_empty ss es) (all_zero us)
    ∙ ap (λ (b : Bool). (eqb s 1 && eqb e 0) && b) (idle_each ss es us (omega arith) (omega arith))
    ∙ sym (and_assoc (eqb s 1 && eqb e 0) (emptied ss es us) (all_zero us))
idle_each (s ∷ ss) (e ∷ es) (suc n ∷ us) p q =
    let some : (eqb (suc n) 0 && all_zero us) ≡ false = ap (λ (b : Bool). b && all_zero us) (ne_eqb (suc n) 0 (λ z. omega (arith, z))) in
    let left : Bool = (eqb s 1 && eqb e 0) && all_empty ss es in
    let right : Bool = kept_slot s e (suc n) && emptied ss es us in
    ap (λ (b : Bool). left && b) some ∙ and-false left ∙ sym (ap (λ (b : Bool). right && b) some ∙ and-false right)

pub idle_is : (l : EarlyList) → Arrays l → (all_empty l.starts l.ends && all_zero l.used) ≡ (emptied l.starts l.ends l.used && all_zero l.used)
idle_is l n = idle_each l.starts l.ends l.used (omega (arith, n.starts, n.ends)) (omega (arith, n.starts, n.flags))

-- the bits of the slots passed, joined, and the slots to come
xor_one : (s : ℕ) → eqb (bit_xor s 1) 0 ≡ eqb s 1
xor_one s = go (eqb s 1) refl
  where
    back : bit_xor s 1 ≡ 0 → s ≡ 1
    back e = sym (xor_zero_r s) ∙ ap (bit_xor s) (sym (xor_self 1)) ∙ sym (xor_assoc s 1 1) ∙ ap (λ (n : ℕ). bit_xor n 1) e ∙ xor_zero_l 1

    go : (b : Bool) → eqb s 1 ≡ b → eqb (bit_xor s 1) 0 ≡ b
    go true e = eq-eqb _ _ (ap (λ (n : ℕ). bit_xor n 1) (eqb-true s 1 e) ∙ xor_self 1)
    go false e = ne_eqb _ _ (λ z. eqb-false s 1 e (back z))

module _ (ss es : List ℕ) (i seen : ℕ) where
  pub empty_more : i < length ss → i < length es → (eqb seen 0 && all_empty (drop i ss) (drop i es))
      ≡ (eqb (bit_or seen (bit_or (bit_xor (get_or ss i 0) 1) (get_or es i 0))) 0 && all_empty (drop (i + 1) ss) (drop (i + 1) es))
  unfolding all_empty
  empty_more p q =
      (λ j. eqb seen 0 && all_empty (drop-cons ss i 0 p j) (drop-cons es i 0 q j))
      ∙ sym (and_assoc (eqb seen 0) (eqb (get_or ss i 0) 1 && eqb (get_or es i 0) 0) _)
      ∙ rw (or_zero seen (bit_or (bit_xor (get_or ss i 0) 1) (get_or es i 0)), or_zero (bit_xor (get_or ss i 0) 1) (get_or es i 0), xor_one (get_or ss i 0), add-one i)

  pub empty_end : length ss ≤ i → (eqb seen 0 && all_empty (drop i ss) (drop i es)) ≡ eqb seen 0
  unfolding all_empty
  empty_end h = ap (λ (l : List ℕ). eqb seen 0 && all_empty l (drop i es)) (drop_of_length-le ss {i = i} h) ∙ and-true (eqb seen 0)

-- ---- plain slots

idle_numbers_are : (s e : ℕ) → (eqb s 1 && eqb e 0) ≡ true → e < s
idle_numbers_are s e p = omega (arith, eqb-true s 1 (both_first (eqb s 1) (eqb e 0) p), eqb-true e 0 (both_second (eqb s 1) (eqb e 0) p))

-- they are told by their pairs
plain_zipped : (ss es : List ℕ) (us : List ℕ) → length ss ≡ length es → length ss ≡ length us → each_slot plain_slot ss es us ≡ true → pair_slots (length ss) (interleaved ss es) ≡ zipped ss es us
unfolding each_slot plain_slot pair_slots interleaved zipped
plain_zipped [] es us p q h = refl
plain_zipped (s ∷ ss) [] us p q h = absurd (omega arith)
plain_zipped (s ∷ ss) (e ∷ es) [] p q h = absurd (omega arith)
plain_zipped (s ∷ ss) (e ∷ es) (suc zero ∷ us) p q h =
    let rest : Bool = each_slot plain_slot ss es us in
    λ i. pair_used s e (leb-true s e (both_first (leb s e) rest h)) i ∷ plain_zipped ss es us (omega arith) (omega arith) (both_second (leb s e) rest h) i
plain_zipped (s ∷ ss) (e ∷ es) (zero ∷ us) p q h =
    let rest : Bool = each_slot plain_slot ss es us in
    let here : Bool = eqb s 1 && eqb e 0 in
    λ i. pair_unused s e (idle_numbers_are s e (both_first here rest h)) i ∷ plain_zipped ss es us (omega arith) (omega arith) (both_second here rest h) i
plain_zipped (s ∷ ss) (e ∷ es) (suc (suc n) ∷ us) p q h = absurd (false≢true h)

-- and stored as a record stores them
plain_emptied : (ss es : List ℕ) (us : List ℕ) → length ss ≡ length es → length ss ≡ length us → each_slot plain_slot ss es us ≡ true → emptied ss es us ≡ true
unfolding each_slot plain_slot emptied kept_slot
plain_emptied [] [] [] p q h = refl
plain_emptied [] [] (u ∷ us) p q h = absurd (omega arith)
plain_emptied [] (e ∷ es) us p q h = absurd (omega arith)
plain_emptied (s ∷ ss) [] us p q h = absurd (omega arith)
plain_emptied (s ∷ ss) (e ∷ es) [] p q h = absurd (omega arith)
plain_emptied (s ∷ ss) (e ∷ es) (suc zero ∷ us) p q h = plain_emptied ss es us (omega arith) (omega arith) (both_second (leb s e) (each_slot plain_slot ss es us) h)
plain_emptied (s ∷ ss) (e ∷ es) (zero ∷ us) p q h =
    let here : Bool = eqb s 1 && eqb e 0 in
    let rest : Bool = each_slot plain_slot ss es us in
    rw (both_first here rest h) (plain_emptied ss es us (omega arith) (omega arith) (both_second here rest h))
plain_emptied (s ∷ ss) (e ∷ es) (suc (suc n) ∷ us) p q h = absurd (false≢true h)

abbrev pub sound : FrameRange → Bool
sound r = leb r.start r.end && leb r.end top

-- as those of any list that keeps the rules are
sound_plain : (ss es : List ℕ) (us : List ℕ) → emptied ss es us ≡ true → all_of sound (entries (zipped ss es us)) ≡ true → each_slot plain_slot ss es us ≡ true
unfolding each_slot plain_slot emptied kept_slot zipped entries all_of
sound_plain [] [] us h a = refl
sound_plain [] (e ∷ es) us h a = refl
sound_plain (s ∷ ss) [] us h a = refl
sound_plain (s ∷ ss) (e ∷ es) [] h a = refl
sound_plain (s ∷ ss) (e ∷ es) (suc zero ∷ us) h a =
    let here : Bool = leb s e && leb e top in
    let rest : Bool = all_of sound (entries (zipped ss es us)) in
    rw (both_first (leb s e) (leb e top) (both_first here rest a)) (sound_plain ss es us h (both_second here rest a))
sound_plain (s ∷ ss) (e ∷ es) (zero ∷ us) h a =
    let here : Bool = eqb s 1 && eqb e 0 in
    rw (both_first here (emptied ss es us) h) (sound_plain ss es us (both_second here (emptied ss es us) h) a)
sound_plain (s ∷ ss) (e ∷ es) (suc (suc n) ∷ us) h a = absurd (false≢true (sym (no_flag s e n) ∙ both_first (kept_slot s e (suc (suc n))) (emptied ss es us) h))

-- so one list may be tested on its slots and then on its pairs
module _ (l : EarlyList) (n : Arrays l) where
  abbrev pairs_of : List ℕ
  pairs_of = interleaved l.starts l.ends

  pub plain_pairs : plain l ≡ true → pair_slots 32 pairs_of ≡ slots_of l
  unfolding slots_of
  plain_pairs h =
      ap (λ (k : ℕ). pair_slots k pairs_of) (sym n.starts) ∙ plain_zipped l.starts l.ends l.used (omega (arith, n.starts, n.ends)) (omega (arith, n.starts, n.flags)) h

  pub plain_stored : plain l ≡ true → emptied l.starts l.ends l.used ≡ true
  plain_stored h = plain_emptied l.starts l.ends l.used (omega (arith, n.starts, n.ends)) (omega (arith, n.starts, n.flags)) h

pub tidy_plain : (l : EarlyList) → emptied l.starts l.ends l.used ≡ true → tidy false (slots_of l) ≡ true → plain l ≡ true
unfolding slots_of tidy
tidy_plain l h t =
    let s : List Slot = slots_of l in
    sound_plain l.starts l.ends l.used h
    (both_first (all_of sound (entries s)) (disjoint (entries s)) (both_second (leb (length (entries s)) (bound false)) _ (both_second (slotted false s) _ t)))

pub sizes : (l : EarlyList) → length l.starts ≡ 32 → length l.ends ≡ 32 → length l.used ≡ 32 → Arrays l
sizes l p q r = record { starts = p; ends = q; flags = r }
