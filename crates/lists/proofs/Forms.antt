-- The laws of one list in its two forms.
use mathlib.Core.Path.{◌≡◌, refl, sym, ap, ◌∙◌, subst}
use mathlib.Core.Bool.{Bool, true, false}
use mathlib.Core.List.{List}
use Prim.Native.Nat.{ℕ, zero, suc, ◌+◌, ◌-◌, ◌*◌, ◌≤◌, ◌<◌}
use native.Mathlib.Omega.{arith}
use lib.ListN.{length, take, drop, get_or, length-append, length-drop, length-set}
use lib.Seq.{length-take-le}
use Rattle.memory_structs.specs.Range.{range}
use Rattle.memory_structs.specs.declared.range.FrameRange.{FrameRange}
use Rattle.model.specs.Lists.{Slot, used, entries, bound, remove, replace_at, range_at}
use Rattle.model.specs.Store.{table_slots, slot_words, table_words, length_in}
use Rattle.model.proofs.Forms.{remove_run, replace_set}
use Rattle.model.proofs.Stored.{AllUsed, none, one, Storable, early, sorted, table_length, table_used, table_words_length, words_length}
use Rattle.model.proofs.Whole.{used_count}
use Rattle.tables.specs.Words.{IsTable}
use Rattle.tables.proofs.Stores.{is_table}
use Rattle.tables.proofs.Search as search
use Rattle.pairs.specs.Pairs.{pair_slots, IsPairs}
use Rattle.pairs.proofs.Pairs.{pairs_length}
use Rattle.pairs.proofs.Pairs as pairs
use Rattle.lists.specs.Part.{width, pairs_in, part_words, IsPart, Stored}

-- what goes by the form and the slots, in each form
module _ {A : Type 0} (f : Bool → List Slot → A) (n : ℕ) (ws : List ℕ) where
  pub at_sorted : {b : Bool} → b ≡ true → f b (pairs_in b n ws) ≡ f true (table_slots n ws)
  unfolding pairs_in
  at_sorted e = rw e

  pub at_early : {b : Bool} → b ≡ false → f b (pairs_in b n ws) ≡ f false (pair_slots 32 ws)
  unfolding pairs_in
  at_early e = rw e

-- how long a part is that stores slots
pub stored_size : {b : Bool} {s : List Slot} → Storable b s → length (part_words b s) ≡ width b
unfolding part_words width
stored_size {s = s} (sorted u h) = table_words_length s h
stored_size {s = s} (early h) = words_length s ∙ omega arith

module _ {b : Bool} {n : ℕ} {ws : List ℕ} (t : IsPart b n ws) where
  kept : {c : Bool} → b ≡ c → IsPart c n ws
  kept e = subst (λ (x : Bool). IsPart x n ws) e t

  pub as_table : b ≡ true → IsTable n ws
  unfolding pairs_in part_words
  as_table e =
      let k : IsPart true n ws = kept e in
      rw (table_length n ws, k.stored) at (is_table (table_slots n ws) (omega (arith, table_length n ws)))

  pub as_pairs : b ≡ false → IsPairs ws
  unfolding pairs_in part_words width
  as_pairs e = let k : IsPart false n ws = kept e in record { size = k.size; plain = k.stored }

  pub no_length : b ≡ false → n ≡ 0
  unfolding length_in
  no_length e = let k : IsPart false n ws = kept e in sym k.len

  pub sorted_length : b ≡ true → length (pairs_in b n ws) ≡ n
  sorted_length e = at_sorted (λ c s. length s) n ws e ∙ table_length n ws

  pub sorted_count : b ≡ true → length (entries (pairs_in b n ws)) ≡ n
  sorted_count e = at_sorted (λ c s. length (entries s)) n ws e ∙ sym (used_count (table_used n ws)) ∙ table_length n ws

  pub early_length : b ≡ false → length (pairs_in b n ws) ≡ 32
  early_length e = at_early (λ c s. length s) n ws e ∙ pairs_length 32 ws

  pub room : b ≡ true → length (entries (pairs_in b n ws)) < bound b → n < 512
  unfolding bound
  room e h =
      let k : length (entries (pairs_in b n ws)) < 512 = subst (λ (x : Bool). length (entries (pairs_in b n ws)) < bound x) e h in
      omega (arith, sorted_count e)

-- a part's slots can be stored
pub part_storable : (b : Bool) (n : ℕ) (ws : List ℕ) → IsPart b n ws → Storable b (pairs_in b n ws)
unfolding pairs_in
part_storable true n ws t = sorted (table_used n ws) (omega (arith, table_length n ws, t.few))
part_storable false n ws t = early (pairs_length 32 ws)

-- a pair of a part stands in it
pub in_part : (b : Bool) (n : ℕ) (ws : List ℕ) → IsPart b n ws → (i : ℕ) → i < length (pairs_in b n ws) → (2 * i + 1 < length ws) × (i < 512)
unfolding pairs_in width
in_part true n ws t i h = omega (arith, t.size, t.few, table_length n ws)
in_part false n ws t i h = omega (arith, t.size, pairs_length 32 ws)

-- in either form the range at i is the pair at i
pub entry_at : (b : Bool) (n : ℕ) (ws : List ℕ) → IsPart b n ws → (i : ℕ) → i < length (pairs_in b n ws) → range (get_or ws (2 * i) 0) (get_or ws (2 * i + 1) 0) ≡ range_at (pairs_in b n ws) i
unfolding pairs_in
entry_at true n ws t i h = search.range_at_holds n i ws (omega (arith, table_length n ws))
entry_at false n ws t i h = pairs.range_at_holds i ws (as_pairs t refl) (omega (arith, pairs_length 32 ws))

-- a pair that becomes another range stays in use
pub replaced_used : (i : ℕ) (r : FrameRange) {s : List Slot} → AllUsed s → AllUsed (replace_at i r s)
unfolding replace_at
replaced_used i r none = none
replaced_used zero r (one u) = one u
replaced_used (suc i) r (one u) = one (replaced_used i r u)

pub length_replaced : (i : ℕ) (r : FrameRange) (s : List Slot) → length (replace_at i r s) ≡ length s
length_replaced i r s = ap length (replace_set i r s) ∙ length-set s i (used r)

pub length_removed : (i k : ℕ) (s : List Slot) → i + k ≤ length s → length (remove true i k s) ≡ length s - k
length_removed i k s h =
    ap length (remove_run i k s) ∙ length-append (take i s) (drop (i + k) s)
    ∙ omega (arith, length-take-le i s (omega arith), length-drop (i + k) s)

-- what an operation leaves, in each form
module _ (f : Bool → List Slot → List Slot) {b : Bool} {n : ℕ} {ws : List ℕ} (t : IsPart b n ws) where
  pub sorted_after : b ≡ true → {m : ℕ} {after : List ℕ} → m ≡ length (f true (table_slots n ws)) → after ≡ table_words (f true (table_slots n ws)) → Stored b (f b (pairs_in b n ws)) m after
  unfolding length_in part_words
  sorted_after e h w = record {
    len = h ∙ sym (at_sorted (λ c s. length_in c (f c s)) n ws e);
    words = w ∙ sym (at_sorted (λ c s. part_words c (f c s)) n ws e);
  }

  pub early_after : b ≡ false → {after : List ℕ} → after ≡ slot_words (f false (pair_slots 32 ws)) → Stored b (f b (pairs_in b n ws)) n after
  unfolding length_in part_words
  early_after e w = record {
    len = no_length t e ∙ sym (at_early (λ c s. length_in c (f c s)) n ws e);
    words = w ∙ sym (at_early (λ c s. part_words c (f c s)) n ws e);
  }

pub width_bound : (b : Bool) {k : ℕ} → k ≡ width b → k ≤ 1024
unfolding width
width_bound true e = omega arith
width_bound false e = omega arith
