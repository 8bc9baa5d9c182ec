-- A header and entries are four lists, each in its part.
use mathlib.Core.Path.{◌≡◌, refl, sym, ap, subst, ◌∙◌}
use mathlib.Core.Bool.{Bool, true, ◌&&◌}
use mathlib.Core.List.{List, ◌++◌, append_assoc}
use Prim.Native.Nat.{ℕ, ◌+◌, ◌-◌, ◌≤◌}
use native.Mathlib.Omega.{arith}
use lib.ListN.{length, take, drop, take-append-drop}
use lib.Seq.{take-add, drop-drop, take_at, drop_at}
use borrow.Rule.Slice.PartMut.{put_mid}
use Rattle.memory_structs.proofs.Bools.{both_first, both_second}
use Rattle.model.specs.Lists.{Lists, Slot}
use Rattle.model.specs.Rules.{tidy, rules}
use Rattle.model.specs.Store.{length_in}
use Rattle.model.specs.Requests.{Result, without_frames, refused, counted}
use Rattle.model.specs.declared.Answer.{Answer}
use Rattle.lists.specs.declared.header.WhichList.{WhichList}
use Rattle.lists.specs.declared.header.WhichList.TheVariants.{GeneralFree, ReservedFree, GeneralRegions, ReservedRegions}
use Rattle.lists.specs.declared.header.Header.{Header}
use Rattle.lists.specs.declared.header.HandedBack.{HandedBack}
use Rattle.lists.specs.declared.Part.{Part}
use Rattle.lists.specs.Part.{width, part_words, Stored, part_slots, HoldsPart, IsTidy}
use Rattle.lists.specs.Whole.{part_of, part_at, header, length_at, with_length, one_in, lists_in, header_of, four, entries_of, slots_at, with_slots, Ruled, part_in, handed_with, Does}

pub loaded : (w : WhichList) (h : Header) (ws : List ℕ) → one_in w h ws ≡ slots_at w (lists_in h ws)
unfolding slots_at lists_in
loaded GeneralFree h ws = refl
loaded ReservedFree h ws = refl
loaded GeneralRegions h ws = refl
loaded ReservedRegions h ws = refl

pub part_fits : (k : ℕ) (w : WhichList) → part_of k w + k ≤ four k
unfolding part_of
part_fits k GeneralFree = omega arith
part_fits k ReservedFree = omega arith
part_fits k GeneralRegions = omega arith
part_fits k ReservedRegions = omega arith

-- each list that keeps the rules is tidy
pub tidy_list : (l : Lists) → rules l ≡ true → (w : WhichList) → tidy l.sorted (slots_at w l) ≡ true
unfolding rules slots_at
tidy_list l e = go
  where
    t : WhichList → Bool
    t w = tidy l.sorted (slots_at w l)

    rest : (t GeneralRegions && t ReservedRegions) ≡ true
    rest = both_first (t GeneralRegions && t ReservedRegions) _ (both_second (t GeneralFree && t ReservedFree) _ e)

    go : (w : WhichList) → t w ≡ true
    go GeneralFree = both_first (t GeneralFree) (t ReservedFree) (both_first (t GeneralFree && t ReservedFree) _ e)
    go ReservedFree = both_second (t GeneralFree) (t ReservedFree) (both_first (t GeneralFree && t ReservedFree) _ e)
    go GeneralRegions = both_first (t GeneralRegions) (t ReservedRegions) rest
    go ReservedRegions = both_second (t GeneralRegions) (t ReservedRegions) rest

-- a part put back, by the parts before and after it
module _ (k : ℕ) (ws y : List ℕ) where
  pub part_then : (n : ℕ) → part_at k n ws ++ drop (n + k) ws ≡ drop n ws
  part_then n = ap (λ (l : List ℕ). take k (drop n ws) ++ l) (sym (drop-drop k n ws)) ∙ take-append-drop k (drop n ws)

  last_part : drop (k + k + k) ws ≡ part_at k (k + k + k) ws ++ drop (four k) ws
  last_part = sym (part_then (k + k + k))

  last_parts : drop (k + k) ws ≡ part_at k (k + k) ws ++ (part_at k (k + k + k) ws ++ drop (four k) ws)
  last_parts = sym (part_then (k + k)) ∙ ap (λ (x : List ℕ). part_at k (k + k) ws ++ x) last_part

  later_parts : drop k ws ≡ part_at k k ws ++ (part_at k (k + k) ws ++ (part_at k (k + k + k) ws ++ drop (four k) ws))
  later_parts = sym (part_then k) ∙ ap (λ (x : List ℕ). part_at k k ws ++ x) last_parts

  pub all_parts : ws ≡ part_at k 0 ws ++ (part_at k k ws ++ (part_at k (k + k) ws ++ (part_at k (k + k + k) ws ++ drop (four k) ws)))
  all_parts = sym (take-append-drop k ws) ∙ ap (λ (x : List ℕ). part_at k 0 ws ++ x) later_parts

  put_first : put_mid 0 k ws y ≡ y ++ (part_at k k ws ++ (part_at k (k + k) ws ++ (part_at k (k + k + k) ws ++ drop (four k) ws)))
  put_first = ap (λ (x : List ℕ). y ++ x) later_parts

  put_second : put_mid k k ws y ≡ part_at k 0 ws ++ (y ++ (part_at k (k + k) ws ++ (part_at k (k + k + k) ws ++ drop (four k) ws)))
  put_second = ap (λ (x : List ℕ). part_at k 0 ws ++ (y ++ x)) (drop-drop k k ws ∙ last_parts)

  put_third : put_mid (k + k) k ws y ≡ part_at k 0 ws ++ (part_at k k ws ++ (y ++ (part_at k (k + k + k) ws ++ drop (four k) ws)))
  put_third =
      (λ i. take-add k k ws i ++ (y ++ (drop-drop k (k + k) ws ∙ last_part) i))
      ∙ append_assoc (part_at k 0 ws) (part_at k k ws) (y ++ (part_at k (k + k + k) ws ++ drop (four k) ws))

  put_fourth : put_mid (k + k + k) k ws y ≡ part_at k 0 ws ++ (part_at k k ws ++ (part_at k (k + k) ws ++ (y ++ drop (four k) ws)))
  put_fourth =
      (λ i. (take-add (k + k) k ws ∙ ap (λ (x : List ℕ). x ++ part_at k (k + k) ws) (take-add k k ws)) i ++ (y ++ drop-drop k (k + k + k) ws i))
      ∙ append_assoc (part_at k 0 ws ++ part_at k k ws) (part_at k (k + k) ws) (y ++ drop (four k) ws)
      ∙ append_assoc (part_at k 0 ws) (part_at k k ws) (part_at k (k + k) ws ++ (y ++ drop (four k) ws))

-- the parts of what is stored
module _ (k : ℕ) (p q r s z : List ℕ) (np : length p ≡ k) (nq : length q ≡ k) (nr : length r ≡ k) (ns : length s ≡ k) where
  abbrev all : List ℕ
  all = p ++ (q ++ (r ++ (s ++ z)))

  past_one : drop k all ≡ q ++ (r ++ (s ++ z))
  past_one = drop_at p (q ++ (r ++ (s ++ z))) k np

  past_two : drop (k + k) all ≡ r ++ (s ++ z)
  past_two = sym (drop-drop k k all) ∙ ap (drop k) past_one ∙ drop_at q (r ++ (s ++ z)) k nq

  past_three : drop (k + k + k) all ≡ s ++ z
  past_three = sym (drop-drop k (k + k) all) ∙ ap (drop k) past_two ∙ drop_at r (s ++ z) k nr

  pub first_is : part_at k 0 all ≡ p
  first_is = take_at p (q ++ (r ++ (s ++ z))) k np

  pub second_is : part_at k k all ≡ q
  second_is = ap (take k) past_one ∙ take_at q (r ++ (s ++ z)) k nq

  pub third_is : part_at k (k + k) all ≡ r
  third_is = ap (take k) past_two ∙ take_at r (s ++ z) k nr

  pub fourth_is : part_at k (k + k + k) all ≡ s
  fourth_is = ap (take k) past_three ∙ take_at s z k ns

-- one list of a header and entries that keep the rules, in its lent part: its form and length, and from where to where it goes
module _ (h : Header) (ws : List ℕ) (u : Ruled h ws) (w : WhichList) {p : Part} {from to : ℕ} (q : p ≡ part_in w h) (f : from ≡ part_of (width h.sorted) w) (t : to ≡ part_of (width h.sorted) w + width h.sorted) where
  pub lent_fits : (from ≤ to) × (to ≤ length ws)
  lent_fits = let k : four (width h.sorted) ≤ length ws = u.long in omega (arith, part_fits (width h.sorted) w)

  pub lent_is : take (to - from) (drop from ws) ≡ part_at (width h.sorted) (part_of (width h.sorted) w) ws
  lent_is = let m : to - from ≡ width h.sorted = omega arith in λ i. take (m i) (drop (f i) ws)

  pub lent_part : HoldsPart p (take (to - from) (drop from ws))
  lent_part = subst (λ (x : List ℕ). HoldsPart p x) (sym lent_is) (subst (λ (y : Part). HoldsPart y (part_at (width h.sorted) (part_of (width h.sorted) w) ws)) (sym q) (u.parts w))

  pub lent_slots : part_slots p (take (to - from) (drop from ws)) ≡ slots_at w (lists_in h ws)
  lent_slots = (λ i. part_slots (q i) (lent_is i)) ∙ loaded w h ws

  lent_both : ◌≡◌ {A = Part × List Slot} (p, part_slots p (take (to - from) (drop from ws))) (part_in w h, slots_at w (lists_in h ws))
  lent_both i = (q i, lent_slots i)

  -- what is said of the form and the slots of the list, said of the part, and back
  pub lent_as : (P : Bool → List Slot → Type 0) → P h.sorted (slots_at w (lists_in h ws)) → P p.sorted (part_slots p (take (to - from) (drop from ws)))
  lent_as P x = subst (λ (y : Part × List Slot). P y.0.sorted y.1) (sym lent_both) x

  pub lent_from : (P : Bool → List Slot → Type 0) → P p.sorted (part_slots p (take (to - from) (drop from ws))) → P h.sorted (slots_at w (lists_in h ws))
  lent_from P x = subst (λ (y : Part × List Slot). P y.0.sorted y.1) lent_both x

  pub lent_tidy : IsTidy p (take (to - from) (drop from ws))
  unfolding lists_in
  lent_tidy = record {
    part = lent_part;
    keeps = (λ i. tidy (q i).sorted (lent_slots i)) ∙ tidy_list (lists_in h ws) u.keeps w;
  }

-- one list stored in its place, the others as they were
module _ (h : Header) (ws : List ℕ) (u : Ruled h ws) where
  len_stays : (w : WhichList) → length_at w h ≡ length_in h.sorted (one_in w h ws)
  len_stays w = sym (u.parts w).len

  words_stay : (w : WhichList) → part_at (width h.sorted) (part_of (width h.sorted) w) ws ≡ part_words h.sorted (one_in w h ws)
  words_stay w = sym (u.parts w).stored

  pub header_put : (w : WhichList) (s : List Slot) (n : ℕ) → n ≡ length_in h.sorted s → with_length w h n ≡ header_of (with_slots w (lists_in h ws) s)
  unfolding with_length header_of with_slots lists_in length_at
  header_put GeneralFree s n e = λ i. header h.sorted (e i) (len_stays ReservedFree i) (len_stays GeneralRegions i) (len_stays ReservedRegions i)
  header_put ReservedFree s n e = λ i. header h.sorted (len_stays GeneralFree i) (e i) (len_stays GeneralRegions i) (len_stays ReservedRegions i)
  header_put GeneralRegions s n e = λ i. header h.sorted (len_stays GeneralFree i) (len_stays ReservedFree i) (e i) (len_stays ReservedRegions i)
  header_put ReservedRegions s n e = λ i. header h.sorted (len_stays GeneralFree i) (len_stays ReservedFree i) (len_stays GeneralRegions i) (e i)

  abbrev joined : List ℕ → List ℕ → List ℕ → List ℕ → List ℕ
  joined a b c d = a ++ (b ++ (c ++ (d ++ drop (four (width h.sorted)) ws)))

  pub words_put : (w : WhichList) (s : List Slot) (y : List ℕ) → y ≡ part_words h.sorted s → put_mid (part_of (width h.sorted) w) (width h.sorted) ws y ≡ entries_of (with_slots w (lists_in h ws) s) ws
  unfolding entries_of with_slots lists_in part_of
  words_put GeneralFree s y e = put_first (width h.sorted) ws y ∙ (λ i. joined (e i) (words_stay ReservedFree i) (words_stay GeneralRegions i) (words_stay ReservedRegions i))
  words_put ReservedFree s y e = put_second (width h.sorted) ws y ∙ (λ i. joined (words_stay GeneralFree i) (e i) (words_stay GeneralRegions i) (words_stay ReservedRegions i))
  words_put GeneralRegions s y e = put_third (width h.sorted) ws y ∙ (λ i. joined (words_stay GeneralFree i) (words_stay ReservedFree i) (e i) (words_stay ReservedRegions i))
  words_put ReservedRegions s y e = put_fourth (width h.sorted) ws y ∙ (λ i. joined (words_stay GeneralFree i) (words_stay ReservedFree i) (words_stay GeneralRegions i) (e i))

  -- what is there is what its lists store
  pub header_kept : h ≡ header_of (lists_in h ws)
  unfolding header_of lists_in length_at
  header_kept = λ i. header h.sorted (len_stays GeneralFree i) (len_stays ReservedFree i) (len_stays GeneralRegions i) (len_stays ReservedRegions i)

  pub words_kept : ws ≡ entries_of (lists_in h ws) ws
  unfolding entries_of lists_in part_of
  words_kept = all_parts (width h.sorted) ws ws ∙ (λ i. joined (words_stay GeneralFree i) (words_stay ReservedFree i) (words_stay GeneralRegions i) (words_stay ReservedRegions i))

  -- a call that leaves the lists leaves the header and every word
  pub does_leave : (x : Answer) (r : Result) → r ≡ record { answer = x; lists = lists_in h ws } → Does r ws (handed_with x h) ws
  does_leave x r p = subst (λ (o : Result). Does o ws (handed_with x h) ws) (sym p) (record { answers = refl; header = header_kept; words = words_kept })

  pub does_refuse : (n : ℕ) (r : Result) → r ≡ refused n (lists_in h ws) → Does r ws (handed_with (without_frames n 0) h) ws
  unfolding refused
  does_refuse n = does_leave (without_frames n 0)

  pub does_count : (n : ℕ) (r : Result) → r ≡ counted n (lists_in h ws) → Does r ws (handed_with (without_frames 0 n) h) ws
  unfolding counted
  does_count n = does_leave (without_frames 0 n)

-- what an operation stores in the lent part stands in the header and the entries
module _ (h : Header) (ws : List ℕ) (u : Ruled h ws) (w : WhichList) {from to : ℕ} (f : from ≡ part_of (width h.sorted) w) (t : to ≡ part_of (width h.sorted) w + width h.sorted) where
  pub lent_back : (s : List Slot) (n : ℕ) (after : List ℕ) → Stored h.sorted s n after →
      (with_length w h n ≡ header_of (with_slots w (lists_in h ws) s)) × (put_mid from (to - from) ws after ≡ entries_of (with_slots w (lists_in h ws) s) ws)
  lent_back s n after st =
      let m : to - from ≡ width h.sorted = omega arith in
      (header_put h ws u w s n st.len, (λ i. put_mid (f i) (m i) ws after) ∙ words_put h ws u w s after st.words)

-- a part that stays as it was
pub same_part : (from k : ℕ) (ws : List ℕ) → put_mid from k ws (take k (drop from ws)) ≡ ws
same_part from k ws = rw (take-append-drop k (drop from ws), take-append-drop from ws)

-- another name for what is done
pub does_as : {r o : Result} {ws after : List ℕ} {d : HandedBack} → r ≡ o → Does o ws d after → Does r ws d after
does_as {ws = ws} {after = after} {d = d} e x = subst (λ (y : Result). Does y ws d after) (sym e) x
