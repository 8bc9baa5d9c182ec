-- The packing law, and what a call on a header and entries does to the record.
use mathlib.Core.Path.{◌≡◌, sym, ap, subst, ◌∙◌}
use mathlib.Core.Bool.{Bool, true, false, false≢true, ◌&&◌}
use mathlib.Core.List.{List, [], ◌++◌, append-nil}
use Prim.Native.Nat.{ℕ}
use native.Mathlib.Omega.{arith}
use lib.ListN.{length, length-append, drop_of_length-le, replicate}
use Rattle.std.proofs.Math.Bool.{and-false}
use Rattle.model.specs.Lists.{Lists, Slot, unused}
use Rattle.model.specs.Store.{flag, is_set, load, record_of, words_of, words_in, slots_in, slots_of, slot_words, early_of, early_in, length_in}
use Rattle.model.specs.declared.EarlyList.{EarlyList}
use Rattle.model.specs.declared.FrameAllocator.{FrameAllocator}
use Rattle.model.proofs.Lawful.{AllSound, Slots, Lawful}
use Rattle.model.proofs.Stored.{Kept, words_length}
use Rattle.model.proofs.Whole.{Tested}
use Rattle.pairs.specs.Pairs.{pair_slots, IsPairs}
use Rattle.pairs.proofs.Pairs.{pairs_of}
use Rattle.lists.specs.declared.header.Header.{Header}
use Rattle.lists.specs.Part.{width, part_words}
use Rattle.lists.specs.Part as one
use Rattle.lists.specs.Whole.{part_at, part_of, length_at, header, lists_in, header_of, entries_of}
use Rattle.lists.proofs.Whole.{first_is, second_is, third_is, fourth_is}
use Rattle.lists.specs.Packed.{packed, packed_lists, Unpackable, header_in, closed}
use Rattle.lists.proofs.Turns.{pack_list}
use Rattle.lists.proofs.Closing.{slots_written, slots_kept}

-- 32 sound slots are read back from their words
slots_again : (s : List Slot) → length s ≡ 32 → AllSound s → pair_slots 32 (slot_words s) ≡ s
slots_again s n a = ap (λ (k : ℕ). pair_slots k (slot_words s)) (sym n) ∙ ap (pair_slots (length s)) (sym (append-nil (slot_words s))) ∙ pairs_of s [] a

is_pairs : (s : List Slot) → length s ≡ 32 → AllSound s → {w : List ℕ} → w ≡ slot_words s → IsPairs w
is_pairs s n a e = subst IsPairs (sym e) (record { size = words_length s ∙ omega arith; plain = ap slot_words (slots_again s n a) })

-- ---- lists in early form that keep the rules

size_of : (b : Bool) (s : List Slot) → b ≡ false → Slots b s → length s ≡ 32
size_of false s p h = h
size_of true s p h = absurd (false≢true (sym p))

abbrev early_header : Header
early_header = header false 0 0 0 0

early_record : (l : Lists) → l.sorted ≡ false → record_of l ≡ record {
  sorted = 0;
  general_free = early_of l.general_free;
  reserved_free = early_of l.reserved_free;
  general_regions = early_of l.general_regions;
  reserved_regions = early_of l.reserved_regions;
  general_free_len = 0;
  reserved_free_len = 0;
  general_regions_len = 0;
  reserved_regions_len = 0;
}
unfolding record_of early_in length_in
early_record l e = rw e

module _ (l : Lists) (a : Lawful l) (e : l.sorted ≡ false) where
  s₀ : length l.general_free ≡ 32
  s₀ = size_of l.sorted l.general_free e a.shape_gf.slots

  s₁ : length l.reserved_free ≡ 32
  s₁ = size_of l.sorted l.reserved_free e a.shape_rf.slots

  s₂ : length l.general_regions ≡ 32
  s₂ = size_of l.sorted l.general_regions e a.shape_gr.slots

  s₃ : length l.reserved_regions ≡ 32
  s₃ = size_of l.sorted l.reserved_regions e a.shape_rr.slots

  n₀ : length (slot_words l.general_free) ≡ 64
  n₀ = omega (arith, words_length l.general_free, s₀)

  n₁ : length (slot_words l.reserved_free) ≡ 64
  n₁ = omega (arith, words_length l.reserved_free, s₁)

  n₂ : length (slot_words l.general_regions) ≡ 64
  n₂ = omega (arith, words_length l.general_regions, s₂)

  n₃ : length (slot_words l.reserved_regions) ≡ 64
  n₃ = omega (arith, words_length l.reserved_regions, s₃)

  part₀ : part_at 64 0 (packed_lists l) ≡ slot_words l.general_free
  unfolding packed_lists
  part₀ = first_is 64 (slot_words l.general_free) (slot_words l.reserved_free) (slot_words l.general_regions) (slot_words l.reserved_regions) [] n₀ n₁ n₂ n₃

  part₁ : part_at 64 64 (packed_lists l) ≡ slot_words l.reserved_free
  unfolding packed_lists
  part₁ = second_is 64 (slot_words l.general_free) (slot_words l.reserved_free) (slot_words l.general_regions) (slot_words l.reserved_regions) [] n₀ n₁ n₂ n₃

  part₂ : part_at 64 128 (packed_lists l) ≡ slot_words l.general_regions
  unfolding packed_lists
  part₂ = third_is 64 (slot_words l.general_free) (slot_words l.reserved_free) (slot_words l.general_regions) (slot_words l.reserved_regions) [] n₀ n₁ n₂ n₃

  part₃ : part_at 64 192 (packed_lists l) ≡ slot_words l.reserved_regions
  unfolding packed_lists
  part₃ = fourth_is 64 (slot_words l.general_free) (slot_words l.reserved_free) (slot_words l.general_regions) (slot_words l.reserved_regions) [] n₀ n₁ n₂ n₃

  pub packed_length : length (packed_lists l) ≡ 256
  unfolding packed_lists
  packed_length = simp (length-append, n₀, n₁, n₂, n₃)

  again₀ : pair_slots 32 (part_at 64 0 (packed_lists l)) ≡ l.general_free
  again₀ = ap (pair_slots 32) part₀ ∙ slots_again l.general_free s₀ a.shape_gf.sound

  again₁ : pair_slots 32 (part_at 64 64 (packed_lists l)) ≡ l.reserved_free
  again₁ = ap (pair_slots 32) part₁ ∙ slots_again l.reserved_free s₁ a.shape_rf.sound

  again₂ : pair_slots 32 (part_at 64 128 (packed_lists l)) ≡ l.general_regions
  again₂ = ap (pair_slots 32) part₂ ∙ slots_again l.general_regions s₂ a.shape_gr.sound

  again₃ : pair_slots 32 (part_at 64 192 (packed_lists l)) ≡ l.reserved_regions
  again₃ = ap (pair_slots 32) part₃ ∙ slots_again l.reserved_regions s₃ a.shape_rr.sound

  pub unpackable : Unpackable (packed_lists l)
  unpackable = record {
    long = omega (arith, packed_length);
    general_free = is_pairs l.general_free s₀ a.shape_gf.sound part₀;
    reserved_free = is_pairs l.reserved_free s₁ a.shape_rf.sound part₁;
    general_regions = is_pairs l.general_regions s₂ a.shape_gr.sound part₂;
    reserved_regions = is_pairs l.reserved_regions s₃ a.shape_rr.sound part₃;
  }

  -- closed with the words of lists, a record is the one that stores them
  pub close_lists : (x : FrameAllocator) → closed x (header_of l) (packed_lists l) ≡ record_of l
  unfolding header_of length_in
  close_lists x =
      slots_written x (header_of l) (packed_lists l) (ap (λ (b : Bool). is_set x.sorted && b) e ∙ and-false (is_set x.sorted))
      ∙ (λ i. record {
        sorted = flag (e i);
        general_free = early_of (again₀ i);
        reserved_free = early_of (again₁ i);
        general_regions = early_of (again₂ i);
        reserved_regions = early_of (again₃ i);
        general_free_len = length_in (e i) l.general_free;
        reserved_free_len = length_in (e i) l.reserved_free;
        general_regions_len = length_in (e i) l.general_regions;
        reserved_regions_len = length_in (e i) l.reserved_regions;
      }) ∙ sym (early_record l e)

  -- and as entries they are the lists
  pub lists_packed : lists_in early_header (packed_lists l) ≡ l
  unfolding lists_in one.pairs_in width part_of length_at
  lists_packed = λ i. record { sorted = sym e i; general_free = again₀ i; reserved_free = again₁ i; general_regions = again₂ i; reserved_regions = again₃ i }

  -- what a call leaves in 256 words of entries
  pub entries_packed : (ws : List ℕ) → length ws ≡ 256 → entries_of l ws ≡ packed_lists l
  unfolding entries_of part_words width packed_lists
  entries_packed ws n =
      rw e (ap (λ (x : List ℕ). slot_words l.general_free ++ (slot_words l.reserved_free ++ (slot_words l.general_regions ++ (slot_words l.reserved_regions ++ x)))) (drop_of_length-le ws {i = 256} (omega arith)))

sorted_record : (l : Lists) → l.sorted ≡ true → record_of l ≡ record {
  sorted = 1;
  general_free = early_of (replicate 32 unused);
  reserved_free = early_of (replicate 32 unused);
  general_regions = early_of (replicate 32 unused);
  reserved_regions = early_of (replicate 32 unused);
  general_free_len = (header_of l).general_free;
  reserved_free_len = (header_of l).reserved_free;
  general_regions_len = (header_of l).general_regions;
  reserved_regions_len = (header_of l).reserved_regions;
}
unfolding record_of early_in header_of
sorted_record l e = rw e

pub sorted_words : (l : Lists) → l.sorted ≡ true → (ws : List ℕ) → entries_of l ws ≡ words_of l ws
unfolding entries_of words_of part_words words_in width
sorted_words l e ws = rw e

-- ---- a record that keeps the rules of storing

kept_early : {b : Bool} {e : EarlyList} {n : ℕ} {w : List ℕ} → Kept b e n w → b ≡ false → early_of (slots_of e) ≡ e
unfolding early_in slots_in
kept_early {e = e} {n = n} {w = w} k p = (subst (λ (x : Bool). Kept x e n w) p k).slots

no_slots : {b : Bool} {e : EarlyList} {n : ℕ} {w : List ℕ} → Kept b e n w → b ≡ true → e ≡ early_of (replicate 32 unused)
unfolding early_in slots_in
no_slots {e = e} {n = n} {w = w} k p = sym (subst (λ (x : Bool). Kept x e n w) p k).slots

module _ (a : FrameAllocator) (ws : List ℕ) (kept : Tested a ws) where
  -- its header is that of its lists
  pub header_lists : header_in a ≡ header_of (load a ws)
  unfolding header_of load
  header_lists = λ i. header (is_set a.sorted) (sym kept.general_free.len i) (sym kept.reserved_free.len i) (sym kept.general_regions.len i) (sym kept.reserved_regions.len i)

  -- packed, it is the words of its lists
  pub pack_lists : is_set a.sorted ≡ false → packed a ≡ packed_lists (load a ws)
  unfolding packed packed_lists load slots_in
  pack_lists e =
      rw e (λ i.
      pack_list a.general_free (kept_early kept.general_free e) i
      ++ (pack_list a.reserved_free (kept_early kept.reserved_free e) i
      ++ (pack_list a.general_regions (kept_early kept.general_regions e) i
      ++ (pack_list a.reserved_regions (kept_early kept.reserved_regions e) i ++ []))))

  -- "in sorted form every early slot is unused": closed in sorted form, it stores the lists of the header
  pub close_sorted : is_set a.sorted ≡ true → (l : Lists) → l.sorted ≡ true → (slots : List ℕ) → closed a (header_of l) slots ≡ record_of l
  unfolding header_of
  close_sorted e l f slots =
      slots_kept a (header_of l) slots ((λ i. e i && f i))
      ∙ (λ i. record {
        sorted = flag (f i);
        general_free = no_slots kept.general_free e i;
        reserved_free = no_slots kept.reserved_free e i;
        general_regions = no_slots kept.general_regions e i;
        reserved_regions = no_slots kept.reserved_regions e i;
        general_free_len = (header_of l).general_free;
        reserved_free_len = (header_of l).reserved_free;
        general_regions_len = (header_of l).general_regions;
        reserved_regions_len = (header_of l).reserved_regions;
      }) ∙ sym (sorted_record l f)
