-- A table whose chosen pairs are rewritten where they stand.
use Prim.Native.Nat.{ℕ, ◌+◌, ◌-◌, ◌≤◌, ◌<◌}
use native.Mathlib.Omega.{arith}
use mathlib.Core.Path.{◌≡◌, sym, ap, subst, ◌∙◌}
use mathlib.Core.Bool.{true}
use mathlib.Core.List.{List, [], ◌∷◌}
use lib.ListN.{length}
use Rattle.memory_structs.specs.Range.{range}
use Rattle.memory_structs.specs.declared.range.FrameRange.{FrameRange}
use Rattle.model.specs.Lists.{Slot, used, insert, insert_sorted, remove, replace_at}
use Rattle.model.specs.Rules.{rising, slotted, tidy}
use Rattle.model.specs.Store.{table_slots, table_words}
use Rattle.model.proofs.Stored.{table_length, table_used, table_again}
use Rattle.tables.specs.Words.{IsTable}
use Rattle.tables.proofs.Stores.{is_table}
use Rattle.tables.proofs.Spaced.{tidy_spaced}
use Rattle.tables.proofs.Touching.{tidy_rising}
use Rattle.lists.proofs.Forms.{length_removed, length_replaced, replaced_used}
use Rattle.request_grants.proofs.Kept.{removed_slotted, inserted_slotted}
use Rattle.request_search.specs.declared.Chosen.{Chosen}
use Rattle.request_grants.specs.Grants.{Chooses, instead, TableOf}
use Rattle.request_grants.proofs.Places.{length_instead, replaced_then, replaced_removed, replaced_one}
use Rattle.request_grants.proofs.Grant.{put_one, put_two}

-- the slots in place of the k slots from i on, and the length with them
table_of : (len i k : ℕ) (new : List Slot) (ws after : List ℕ) → i + k ≤ len → (n : ℕ) → n ≡ len - k + length new
    → (s : List Slot) → s ≡ instead i k new (table_slots len ws) → after ≡ table_words s → TableOf (instead i k new (table_slots len ws)) n after
table_of len i k new ws after h n e s same w = record {
  counted = omega (arith, length_instead i k new (table_slots len ws) (omega (arith, table_length len ws)), table_length len ws);
  written = w ∙ ap table_words same;
}

-- the slots, by an equal name
pub left_instead : {x y : List Slot} {n : ℕ} {ws : List ℕ} → x ≡ y → TableOf x n ws → TableOf y n ws
left_instead {n = n} {ws = ws} e t = subst (λ (s : List Slot). TableOf s n ws) e t

-- k pairs are taken out
pub all_removed : (len i k : ℕ) (ws after : List ℕ) → i + k ≤ len → after ≡ table_words (remove true i k (table_slots len ws))
    → TableOf (remove true i k (table_slots len ws)) (len - k) after
all_removed len i k ws after h w = record {
  counted = omega (arith, length_removed i k (table_slots len ws) (omega (arith, table_length len ws)), table_length len ws);
  written = w;
}

-- the pair at i, by an equal name
pub pair_as : (len i : ℕ) {x y : FrameRange} (ws : List ℕ) {after : List ℕ} → x ≡ y → after ≡ table_words (replace_at i x (table_slots len ws)) → after ≡ table_words (replace_at i y (table_slots len ws))
pair_as len i ws e w = w ∙ ap (λ (r : FrameRange). table_words (replace_at i r (table_slots len ws))) e

-- the pair at i is rewritten
module _ (len i : ℕ) (r : FrameRange) (ws after : List ℕ) (t : IsTable len ws) (w : after ≡ table_words (replace_at i r (table_slots len ws))) where
  size : length (replace_at i r (table_slots len ws)) ≡ len
  size = length_replaced i r (table_slots len ws) ∙ table_length len ws

  pub rewritten_table : IsTable len after
  rewritten_table = rw (size, ← w) at (is_table (replace_at i r (table_slots len ws)) (omega (arith, size, t.fits)))

  pub rewritten_slots : table_slots len after ≡ replace_at i r (table_slots len ws)
  rewritten_slots = rw (size, ← w) at (table_again (replaced_used i r (table_used len ws)))

  -- nothing else is to be done for one pair
  pub one_left : (many : ℕ) → many ≡ 1 → i + many ≤ len → TableOf (instead i many (used r ∷ []) (table_slots len ws)) len after
  one_left many e h =
      table_of len i many (used r ∷ []) ws after h len (omega arith) (replace_at i r (table_slots len ws))
      (replaced_one i r (table_slots len ws) (omega (arith, table_length len ws)) ∙ ap (λ (k : ℕ). instead i k (used r ∷ []) (table_slots len ws)) (sym e)) w

  module _ (many : ℕ) (some : 0 < many) (fits : i + many ≤ len) (end : List ℕ) where
    -- the pairs after it are taken out
    pub others_removed : end ≡ table_words (remove true (i + 1) (many - 1) (table_slots len after))
        → TableOf (instead i many (used r ∷ []) (table_slots len ws)) (len - (many - 1)) end
    others_removed e =
        table_of len i many (used r ∷ []) ws end fits (len - (many - 1)) (omega arith) (remove true (i + 1) (many - 1) (table_slots len after))
        (ap (remove true (i + 1) (many - 1)) rewritten_slots ∙ replaced_removed i many r (table_slots len ws) some (omega (arith, table_length len ws))) e

    -- one is left of the pairs after it
    pub then_left : (x : FrameRange) (n : ℕ) → TableOf (instead (i + 1) (many - 1) (used x ∷ []) (table_slots len after)) n end
        → TableOf (instead i many (used r ∷ used x ∷ []) (table_slots len ws)) n end
    then_left x n left =
        left_instead
        (ap (instead (i + 1) (many - 1) (used x ∷ [])) rewritten_slots ∙ replaced_then i many r (table_slots len ws) some (omega (arith, table_length len ws)) (used x ∷ []))
        left

-- a single pair, rewritten as the part before: the part after goes in next to it
module _ (len : ℕ) (c : Chosen) (asked : FrameRange) (ws after : List ℕ) (t : IsTable len ws) (tidied : tidy true (table_slots len ws) ≡ true)
    (chosen : Chooses true (table_slots len ws) c asked) (p : c.range.start < asked.start) (q : asked.end < c.range.end) (single : c.many ≡ 1)
    (w : after ≡ table_words (replace_at c.first (range c.range.start (asked.start - 1)) (table_slots len ws))) where
  abbrev before : FrameRange
  before = range c.range.start (asked.start - 1)

  abbrev rest : FrameRange
  rest = range (asked.end + 1) c.range.end

  abbrev slots : List Slot
  slots = table_slots len ws

  stands : table_slots len after ≡ instead c.first c.many (used before ∷ []) slots
  stands =
      rewritten_slots len c.first before ws after t w
      ∙ replaced_one c.first before slots (omega (arith, chosen.in_list))
      ∙ ap (λ (k : ℕ). instead c.first k (used before ∷ []) slots) (sym single)

  pub still_rising : rising 0 (table_slots len after) ≡ true
  unfolding slotted insert
  still_rising =
      ap (rising 0)
      (stands ∙ sym (put_one slots c asked (tidy_spaced slots tidied) chosen before (omega arith) (omega (arith, chosen.filled))))
      ∙ inserted_slotted true before (remove true c.first c.many slots)
      (removed_slotted true c.first c.many slots (tidy_rising slots tidied))

  pub put_after_holds : (last : List ℕ) → last ≡ table_words (insert_sorted rest (table_slots len after))
      → TableOf (instead c.first c.many (used before ∷ used rest ∷ []) slots) (len + 1) last
  put_after_holds last e =
      table_of len c.first c.many (used before ∷ used rest ∷ []) ws last (omega (arith, chosen.in_list, table_length len ws)) (len + 1)
      (omega (arith, chosen.in_list, table_length len ws))
      (insert_sorted rest (table_slots len after))
      (ap (insert_sorted rest) stands
      ∙ put_two slots c asked (tidy_spaced slots tidied) chosen before rest (omega (arith, chosen.filled)) (omega (arith, chosen.filled)) (omega arith))
      e
