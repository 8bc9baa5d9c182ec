-- A grant from chosen chunks. The words in quotes are document 01's.
use Rattle.std.specs.Prelude.{ℕ, ◌+◌, ◌-◌, ◌≤◌, ◌<◌, ◌≡◌, Bool, true, false, not, ◌&&◌, List, Option, Some, None, ◌++◌, length, take, drop, ltb, eqb}
use Rattle.std.specs.Prelude.{if◌then◌else◌}
use Rattle.memory_structs.specs.Range.{is_empty}
use Rattle.memory_structs.specs.declared.range.FrameRange.{FrameRange}
use Rattle.model.specs.Lists.{Slot, range_at, bound, insert}
use Rattle.model.specs.Requests.{grant_from, entries_after}
use Rattle.model.specs.Store.{table_words}
use Rattle.lists.specs.Part.{Stored}
use Rattle.request_search.specs.declared.Chosen.{Chosen}

-- the chunks stand in the list from `first` on, and the request lies in the range from the start of the first to the end of the last.
-- So the chunk of an early list is in use: an unused slot has no frame, and the request has one.
pub record Chooses (sorted : Bool) (s : List Slot) (c : Chosen) (asked : FrameRange) : Type 0 where
  pub some : 0 < c.many
  pub in_list : c.first + c.many ≤ length s
  pub one : sorted ≡ false → c.many ≡ 1
  pub begins : c.range.start ≡ (range_at s c.first).start
  pub ends : c.range.end ≡ (range_at s (c.first + (c.many - 1))).end
  pub from : c.range.start ≤ asked.start
  pub filled : asked.start ≤ asked.end
  pub to : asked.end ≤ c.range.end

-- the list after the grant, and how many entries it has
unfoldable pub grant_of : Bool → Chosen → FrameRange → List Slot → List Slot
grant_of sorted c asked s = grant_from sorted c.first c.many c.range asked s

unfoldable pub entries_left : Bool → Chosen → FrameRange → List Slot → ℕ
entries_left sorted c asked s = entries_after sorted c.first c.many c.range asked s

-- one chunk, with frames left over on both sides
abbrev pub cut_in_two : Chosen → FrameRange → Bool
cut_in_two c asked = eqb c.many 1 && (not (eqb c.range.start asked.start) && not (eqb c.range.end asked.end))

-- 18, of one list: "after the call a list would hold more than 32 (early) or 512 (sorted) entries"
abbrev pub overfull : Bool → Chosen → FrameRange → List Slot → Bool
overfull sorted c asked s = ltb (bound sorted) (entries_left sorted c asked s)

-- the list without a place for what is left over stays as it is; else it stores the grant, and answers its length
abbrev pub TakesOut : Bool → Chosen → FrameRange → List Slot → List ℕ → Option ℕ → List ℕ → Type 0
TakesOut sorted c asked s before None after = (overfull sorted c asked s ≡ true) × (after ≡ before)
TakesOut sorted c asked s before (Some n) after = (overfull sorted c asked s ≡ false) × Stored sorted (grant_of sorted c asked s) n after

-- in early form: what is left over on one side of the grant goes in, where it has a frame (`written_below`, `written_above`, proofs/Grant: as the model's
-- `put_before` and `put_after`)
unfoldable pub put_left : FrameRange → List Slot → List Slot
put_left left s = if is_empty left then s else insert false left s

-- new slots in the place of the k slots from i on
unfoldable pub instead : ℕ → ℕ → List Slot → List Slot → List Slot
instead i k new s = take i s ++ (new ++ drop (i + k) s)

-- a table's length and words are those of the slots
pub record TableOf (s : List Slot) (len : ℕ) (words : List ℕ) : Type 0 where
  pub counted : len ≡ length s
  pub written : words ≡ table_words s
