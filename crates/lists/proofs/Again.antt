-- Lists, stored in a header and entries, are read back and keep the rules: so one call may follow another, in either form.
use mathlib.Core.Path.{◌≡◌, sym, ap, subst, ◌∙◌}
use mathlib.Core.Bool.{Bool}
use mathlib.Core.List.{List, [], append-nil}
use Prim.Native.Nat.{ℕ, ◌+◌, ◌≤◌}
use native.Mathlib.Omega.{arith}
use lib.ListN.{length, drop, length-append, length-drop}
use Rattle.model.specs.Lists.{Lists, Slot}
use Rattle.model.specs.Rules.{rules}
use Rattle.model.specs.Calls.{Call, answer}
use Rattle.model.specs.Store.{slot_words, length_in}
use Rattle.model.proofs.Lasting.{answer_lawful}
use Rattle.model.proofs.Lawful.{AllSound, Lawful}
use Rattle.model.proofs.Ruled.{rules_lawful, lawful_rules}
use Rattle.model.proofs.Stored.{Storable, early, sorted, table_again}
use Rattle.model.proofs.Whole.{storables}
use Rattle.pairs.specs.Pairs.{pair_slots}
use Rattle.pairs.proofs.Pairs.{pairs_of}
use Rattle.lists.specs.declared.header.WhichList.{WhichList}
use Rattle.lists.specs.declared.header.WhichList.TheVariants.{GeneralFree, ReservedFree, GeneralRegions, ReservedRegions}
use Rattle.lists.specs.declared.header.Header.{Header}
use Rattle.lists.specs.declared.header.HandedBack.{HandedBack}
use Rattle.lists.specs.Part.{width, pairs_in, part_words, IsPart}
use Rattle.lists.specs.Whole.{part_of, part_at, length_at, lists_in, header_of, four, entries_of, Ruled, Does}
use Rattle.lists.proofs.Forms.{stored_size}
use Rattle.lists.proofs.Whole.{first_is, second_is, third_is, fourth_is}

-- one list
pub one_again : {b : Bool} {s : List Slot} → Storable b s → AllSound s → pairs_in b (length_in b s) (part_words b s) ≡ s
unfolding pairs_in length_in part_words
one_again (sorted u h) a = table_again u
one_again {s = s} (early h) a = ap (λ (k : ℕ). pair_slots k (slot_words s)) (sym h) ∙ ap (pair_slots (length s)) (sym (append-nil (slot_words s))) ∙ pairs_of s [] a

few_of : {b : Bool} {s : List Slot} → Storable b s → length_in b s ≤ 512
unfolding length_in
few_of (sorted u h) = h
few_of (early h) = omega arith

is_part : {b : Bool} {s : List Slot} → Storable b s → AllSound s → {w : List ℕ} → w ≡ part_words b s → IsPart b (length_in b s) w
is_part {b} {s} v a e = subst (IsPart b (length_in b s)) (sym e) (record {
  size = stored_size v;
  few = few_of v;
  stored = ap (part_words b) (one_again v a);
  len = ap (length_in b) (one_again v a);
})

-- all four
abbrev tail_of : Lists → List ℕ → List ℕ
tail_of l ws = drop (four (width l.sorted)) ws

module _ (l : Lists) (a : Lawful l) (ws : List ℕ) where
  n₀ : length (part_words l.sorted l.general_free) ≡ width l.sorted
  n₀ = stored_size (storables l a).general_free

  n₁ : length (part_words l.sorted l.reserved_free) ≡ width l.sorted
  n₁ = stored_size (storables l a).reserved_free

  n₂ : length (part_words l.sorted l.general_regions) ≡ width l.sorted
  n₂ = stored_size (storables l a).general_regions

  n₃ : length (part_words l.sorted l.reserved_regions) ≡ width l.sorted
  n₃ = stored_size (storables l a).reserved_regions

  p₀ : part_at (width l.sorted) 0 (entries_of l ws) ≡ part_words l.sorted l.general_free
  unfolding entries_of
  p₀ = first_is (width l.sorted) (part_words l.sorted l.general_free) (part_words l.sorted l.reserved_free) (part_words l.sorted l.general_regions) (part_words l.sorted l.reserved_regions) (tail_of l ws) n₀ n₁ n₂ n₃

  p₁ : part_at (width l.sorted) (width l.sorted) (entries_of l ws) ≡ part_words l.sorted l.reserved_free
  unfolding entries_of
  p₁ = second_is (width l.sorted) (part_words l.sorted l.general_free) (part_words l.sorted l.reserved_free) (part_words l.sorted l.general_regions) (part_words l.sorted l.reserved_regions) (tail_of l ws) n₀ n₁ n₂ n₃

  p₂ : part_at (width l.sorted) (width l.sorted + width l.sorted) (entries_of l ws) ≡ part_words l.sorted l.general_regions
  unfolding entries_of
  p₂ = third_is (width l.sorted) (part_words l.sorted l.general_free) (part_words l.sorted l.reserved_free) (part_words l.sorted l.general_regions) (part_words l.sorted l.reserved_regions) (tail_of l ws) n₀ n₁ n₂ n₃

  p₃ : part_at (width l.sorted) (width l.sorted + width l.sorted + width l.sorted) (entries_of l ws) ≡ part_words l.sorted l.reserved_regions
  unfolding entries_of
  p₃ = fourth_is (width l.sorted) (part_words l.sorted l.general_free) (part_words l.sorted l.reserved_free) (part_words l.sorted l.general_regions) (part_words l.sorted l.reserved_regions) (tail_of l ws) n₀ n₁ n₂ n₃

  -- the lists come back
  pub lists_again : lists_in (header_of l) (entries_of l ws) ≡ l
  unfolding lists_in header_of length_at part_of
  lists_again = λ i. record {
    sorted = l.sorted;
    general_free = (ap (pairs_in l.sorted (length_in l.sorted l.general_free)) p₀ ∙ one_again (storables l a).general_free a.shape_gf.sound) i;
    reserved_free = (ap (pairs_in l.sorted (length_in l.sorted l.reserved_free)) p₁ ∙ one_again (storables l a).reserved_free a.shape_rf.sound) i;
    general_regions = (ap (pairs_in l.sorted (length_in l.sorted l.general_regions)) p₂ ∙ one_again (storables l a).general_regions a.shape_gr.sound) i;
    reserved_regions = (ap (pairs_in l.sorted (length_in l.sorted l.reserved_regions)) p₃ ∙ one_again (storables l a).reserved_regions a.shape_rr.sound) i;
  }

  pub entries_length : four (width l.sorted) ≤ length ws → length (entries_of l ws) ≡ length ws
  unfolding entries_of
  entries_length h = simp (length-append, n₀, n₁, n₂, n₃, length-drop) (omega arith)

  -- and keep the rules
  pub ruled_again : four (width l.sorted) ≤ length ws → Ruled (header_of l) (entries_of l ws)
  unfolding header_of length_at part_of
  ruled_again h = record { long = omega (arith, entries_length h); parts = parts; keeps = ap rules lists_again ∙ lawful_rules l a }
    where
      parts : (w : WhichList) → IsPart l.sorted (length_at w (header_of l)) (part_at (width l.sorted) (part_of (width l.sorted) w) (entries_of l ws))
      parts GeneralFree = is_part (storables l a).general_free a.shape_gf.sound p₀
      parts ReservedFree = is_part (storables l a).reserved_free a.shape_rf.sound p₁
      parts GeneralRegions = is_part (storables l a).general_regions a.shape_gr.sound p₂
      parts ReservedRegions = is_part (storables l a).reserved_regions a.shape_rr.sound p₃

-- a call that keeps the form leaves a header and entries that keep the rules: a run packs once, and the next call may go on
pub call_keeps : (c : Call) (h : Header) (ws : List ℕ) → Ruled h ws → (answer c (lists_in h ws)).lists.sorted ≡ h.sorted
    → {d : HandedBack} {after : List ℕ} → Does (answer c (lists_in h ws)) ws d after → Ruled d.header after
call_keeps c h ws u form {d = d} {after = after} x =
    let l : Lists = (answer c (lists_in h ws)).lists in
    let a : Lawful l = answer_lawful c (lists_in h ws) (rules_lawful (lists_in h ws) u.keeps) in
    let long : four (width l.sorted) ≤ length ws = subst (λ (b : Bool). four (width b) ≤ length ws) (sym form) u.long in
    subst (λ (y : List ℕ). Ruled d.header y) (sym x.words) (subst (λ (y : Header). Ruled y (entries_of l ws)) (sym x.header) (ruled_again l a ws long))
