-- One turn of the loops that pack and unpack a list.
use mathlib.Core.Path.{◌≡◌, refl, sym, ap, ◌∙◌}
use mathlib.Core.Bool.{Bool, true, false}
use mathlib.Core.List.{List, [], ◌∷◌, ◌++◌, map, append-nil, append_assoc}
use Prim.Native.Nat.{ℕ, zero, suc, ◌+◌, ◌*◌, ◌≤◌, ◌<◌}
use native.Mathlib.Nat.{suc-add}
use native.Mathlib.Numerals.{add-one}
use native.Mathlib.Omega.{arith}
use lib.ListN.{length, take, drop, get_or, set, length-append, length-drop, length-map, get_or-map, drop_of_length-le}
use lib.Seq.{take_all, take-suc, take-suc-set, take_at, drop_at}
use borrow.Rule.Slice.PartMut.{put_mid}
use lib.Dec.{leb, ltb}
use borrow.Author.Tests.{ltb-true, ltb-false, le-leb, lt-leb}
use Rattle.std.specs.Prelude.{if◌then◌else◌}
use Rattle.memory_structs.specs.Range.{range}
use Rattle.memory_structs.specs.declared.range.FrameRange.{FrameRange}
use Rattle.model.specs.Lists.{Slot, unused, used}
use mir.Val.{bool_byte as from_bool}
use Rattle.model.specs.Store.{flag, range_in, flag_in, early_of, slots_of, slot_words}
use Rattle.model.specs.declared.EarlyList.{EarlyList}
use Rattle.model.proofs.Stored.{double}
use Rattle.pairs.specs.Pairs.{pair_slot, pair_slots, IsPairs}
use Rattle.pairs.proofs.Pairs.{pairs_length, pair_at_holds, range_at_holds, slot_range}
use Rattle.model.specs.declared.FrameAllocator.{FrameAllocator}
use Rattle.model.specs.Store.{Arrays}
use Rattle.lists.specs.Packed.{interleaved, packed}

-- ---- packing

abbrev pub packed_to : ℕ → List ℕ → List ℕ → List ℕ → List ℕ
packed_to i ss es ts = interleaved (take i ss) (take i es) ++ drop (2 * i) ts

pack_suc : (i : ℕ) (ss es ts : List ℕ) → i < length ss → i < length es → 2 * i + 1 < length ts
    → set (set (packed_to i ss es ts) (2 * i) (get_or ss i 0)) (2 * i + 1) (get_or es i 0) ≡ packed_to (suc i) ss es ts
unfolding interleaved
pack_suc i [] es ts p q r = absurd (omega arith)
pack_suc i (s ∷ ss) [] ts p q r = absurd (omega arith)
pack_suc i (s ∷ ss) (e ∷ es) [] p q r = absurd (omega arith)
pack_suc i (s ∷ ss) (e ∷ es) (x ∷ []) p q r = absurd (omega arith)
pack_suc zero (s ∷ ss) (e ∷ es) (x ∷ y ∷ ts) p q r = refl
pack_suc (suc i) (s ∷ ss) (e ∷ es) (x ∷ y ∷ ts) p q r =
    rw (double (suc i), double i, suc-add (suc (2 * i)) 1, suc-add (2 * i) 1)
    (ap (λ (l : List ℕ). s ∷ e ∷ l) (pack_suc i ss es ts (omega arith) (omega arith) (omega arith) ∙ rw (double i)))

pub pack_turn : (i : ℕ) (ss es ts : List ℕ) → i < length ss → i < length es → 2 * i + 1 < length ts
    → set (set (packed_to i ss es ts) (2 * i) (get_or ss i 0)) (2 * i + 1) (get_or es i 0) ≡ packed_to (i + 1) ss es ts
pack_turn i ss es ts p q r = pack_suc i ss es ts p q r ∙ ap (λ (n : ℕ). packed_to n ss es ts) (sym (add-one i))

pub pack_end : (i : ℕ) (ss es ts : List ℕ) → length ss ≤ i → length es ≤ i → length ts ≤ 2 * i → packed_to i ss es ts ≡ interleaved ss es
pack_end i ss es ts p q r =
    (λ j. interleaved (take_all i ss p j) (take_all i es q j) ++ drop_of_length-le ts {i = 2 * i} r j) ∙ append-nil (interleaved ss es)

-- a list whose unused slots hold [1,0], packed
pack_slots : (s : List Slot) → interleaved (map (λ x. (range_in x).start) s) (map (λ x. (range_in x).end) s) ≡ slot_words s
unfolding interleaved slot_words
pack_slots [] = refl
pack_slots (x ∷ s) = ap (λ (l : List ℕ). (range_in x).start ∷ (range_in x).end ∷ l) (pack_slots s)

pub pack_list : (e : EarlyList) → early_of (slots_of e) ≡ e → interleaved e.starts e.ends ≡ slot_words (slots_of e)
unfolding early_of
pack_list e p = ap (λ (x : EarlyList). interleaved x.starts x.ends) (sym p) ∙ pack_slots (slots_of e)

-- ---- unpacking

-- a list's pairs as the arrays of its slots
abbrev pub starts_of : List ℕ → List ℕ
starts_of ws = map (λ x. (range_in x).start) (pair_slots 32 ws)

abbrev pub ends_of : List ℕ → List ℕ
ends_of ws = map (λ x. (range_in x).end) (pair_slots 32 ws)

abbrev pub flags_of : List ℕ → List ℕ
flags_of ws = map flag_in (pair_slots 32 ws)

-- a flag as a number, as the code makes it
pub flag_byte : (b : Bool) {n : ℕ} → n ≡ from_bool b → n ≡ flag b
flag_byte true e = e
flag_byte false e = e

-- an array that is filled from its beginning

module _ {A : Type 0} (d : A) (xs m : List A) (i : ℕ) where
  pub fill_turn : i < length xs → i < length m → (a : A) → a ≡ get_or m i d → take i xs ≡ take i m → take (i + 1) (set xs i a) ≡ take (i + 1) m
  fill_turn p q a e inv =
      rw (add-one i) (take-suc-set xs i a p ∙ (λ j. inv j ++ (e j ∷ [])) ∙ sym (take-suc m i d q))

  pub fill_end : length xs ≤ i → length m ≤ i → take i xs ≡ take i m → xs ≡ m
  fill_end p q inv = sym (take_all i xs p) ∙ inv ∙ take_all i m q

used_is : (a b : ℕ) → flag (leb a b) ≡ flag_in (pair_slot a b)
unfolding pair_slot
used_is a b = go (ltb b a) refl
  where
    go : (t : Bool) → ltb b a ≡ t → flag (leb a b) ≡ flag_in (if t then unused else used (range a b))
    go true e = ap flag (lt-leb a b (ltb-true b a e))
    go false e = ap flag (le-leb a b (ltb-false b a e))

module _ (ws : List ℕ) (i : ℕ) (t : IsPairs ws) (h : i < 32) where
  slot : range (get_or ws (2 * i) 0) (get_or ws (2 * i + 1) 0) ≡ range_in (get_or (pair_slots 32 ws) i unused)
  slot = range_at_holds i ws t h ∙ sym (slot_range (pair_slots 32 ws) i)

  pub start_is : get_or ws (2 * i) 0 ≡ get_or (starts_of ws) i 1
  start_is = ap (λ (r : FrameRange). r.start) slot ∙ sym (get_or-map (λ (x : Slot). (range_in x).start) (pair_slots 32 ws) i unused)

  pub end_is : get_or ws (2 * i + 1) 0 ≡ get_or (ends_of ws) i 0
  end_is = ap (λ (r : FrameRange). r.end) slot ∙ sym (get_or-map (λ (x : Slot). (range_in x).end) (pair_slots 32 ws) i unused)

  pub flag_is : flag (leb (get_or ws (2 * i) 0) (get_or ws (2 * i + 1) 0)) ≡ get_or (flags_of ws) i 0
  flag_is = used_is (get_or ws (2 * i) 0) (get_or ws (2 * i + 1) 0) ∙ sym (ap flag_in (pair_at_holds 32 i ws h)) ∙ sym (get_or-map flag_in (pair_slots 32 ws) i unused)

pub starts_length : (ws : List ℕ) → length (starts_of ws) ≡ 32
starts_length ws = length-map (pair_slots 32 ws) (λ x. (range_in x).start) ∙ pairs_length 32 ws

pub ends_length : (ws : List ℕ) → length (ends_of ws) ≡ 32
ends_length ws = length-map (pair_slots 32 ws) (λ x. (range_in x).end) ∙ pairs_length 32 ws

pub flags_length : (ws : List ℕ) → length (flags_of ws) ≡ 32
flags_length ws = length-map (pair_slots 32 ws) flag_in ∙ pairs_length 32 ws

pub pack_start : (ss es ts : List ℕ) → ts ≡ packed_to 0 ss es ts
unfolding interleaved
pack_start ss es ts = refl

-- four lists written one after the other
interleaved_length : (ss es : List ℕ) → length ss ≡ length es → length (interleaved ss es) ≡ 2 * length ss
unfolding interleaved
interleaved_length [] es p = refl
interleaved_length (s ∷ ss) [] p = absurd (omega arith)
interleaved_length (s ∷ ss) (e ∷ es) p = omega (arith, interleaved_length ss es (omega arith))

put_next : (n k : ℕ) (x z y : List ℕ) → length x ≡ n → put_mid n k (x ++ z) y ≡ x ++ (y ++ drop k z)
put_next n k x z y h = λ i. take_at x z n h i ++ (y ++ drop k (drop_at x z n h i))

put_four : (ws p q r s : List ℕ) → length ws ≡ 256 → length p ≡ 64 → length q ≡ 64 → length r ≡ 64 → put_mid 192 64 (put_mid 128 64 (put_mid 64 64 (put_mid 0 64 ws p) q) r) s ≡ p ++ (q ++ (r ++ (s ++ [])))
put_four ws p q r s n np nq nr =
    let z : List ℕ = drop 64 (drop 64 ws) in
    let two : put_mid 64 64 (put_mid 0 64 ws p) q ≡ (p ++ q) ++ z = put_next 64 64 p (drop 64 ws) q np ∙ sym (append_assoc p q z) in
    let three : put_mid 128 64 ((p ++ q) ++ z) r ≡ ((p ++ q) ++ r) ++ drop 64 z = put_next 128 64 (p ++ q) z r (omega (arith, length-append p q)) ∙ sym (append_assoc (p ++ q) r (drop 64 z)) in
    let end : drop 64 (drop 64 z) ≡ [] = drop_of_length-le (drop 64 z) {i = 64} (omega (arith, length-drop 64 z, length-drop 64 (drop 64 ws), length-drop 64 ws)) in
    ap (λ (x : List ℕ). put_mid 192 64 (put_mid 128 64 x r) s) two ∙ ap (λ (x : List ℕ). put_mid 192 64 x s) three
    ∙ put_next 192 64 ((p ++ q) ++ r) (drop 64 z) s (omega (arith, length-append (p ++ q) r, length-append p q))
    ∙ ap (λ (x : List ℕ). ((p ++ q) ++ r) ++ (s ++ x)) end ∙ append_assoc (p ++ q) r (s ++ []) ∙ append_assoc p q (r ++ (s ++ []))

abbrev pub pairs_of : EarlyList → List ℕ
pairs_of e = interleaved e.starts e.ends

pub pairs_64 : (e : EarlyList) → Arrays e → {p : List ℕ} → p ≡ pairs_of e → length p ≡ 64
pairs_64 e n {p} h = ap length h ∙ interleaved_length e.starts e.ends (omega (arith, n.starts, n.ends)) ∙ omega (arith, n.starts)

pub pack_all : (ws : List ℕ) → length ws ≡ 256 → (a : FrameAllocator) → {p q r s : List ℕ} → length p ≡ 64 → length q ≡ 64 → length r ≡ 64
    → p ≡ pairs_of a.general_free → q ≡ pairs_of a.reserved_free → r ≡ pairs_of a.general_regions → s ≡ pairs_of a.reserved_regions
    → put_mid 192 64 (put_mid 128 64 (put_mid 64 64 (put_mid 0 64 ws p) q) r) s ≡ packed a
unfolding packed
pack_all ws n a {p} {q} {r} {s} np nq nr ep eq er es = put_four ws p q r s n np nq nr ∙ (λ i. ep i ++ (eq i ++ (er i ++ (es i ++ []))))
