-- The four lists as a header and lent entries. The words in quotes are document 01's.
use Rattle.std.specs.Prelude.{ℕ, ◌+◌, ◌≤◌, ◌≡◌, Bool, true, List, ◌++◌, length, take, drop}
use Rattle.model.specs.Lists.{Lists, Slot}
use Rattle.model.specs.Store.{length_in}
use Rattle.model.specs.Rules.{rules}
use Rattle.std.specs.Prelude.{Ok, Err}
use Rattle.std.specs.Prelude.{Result as Outcome}
use Rattle.model.specs.Requests.{Result}
use Rattle.model.specs.Refusals.{refused_answer}
use Rattle.model.specs.declared.refusals.Refusal.{Refusal}
use Rattle.model.specs.declared.Answer.{Answer}
use Rattle.lists.specs.declared.Part.{Part}
use Rattle.lists.specs.declared.header.WhichList.{WhichList}
use Rattle.lists.specs.declared.header.WhichList.TheVariants.{GeneralFree, ReservedFree, GeneralRegions, ReservedRegions}
use Rattle.lists.specs.declared.header.Header.{Header}
use Rattle.lists.specs.declared.header.HandedBack.{HandedBack}
use Rattle.lists.specs.Part.{width, pairs_in, part_words, IsPart}

-- where a list's part begins, by the width of a part
unfoldable pub part_of : ℕ → WhichList → ℕ
part_of k GeneralFree = 0
part_of k ReservedFree = k
part_of k GeneralRegions = k + k
part_of k ReservedRegions = k + k + k

abbrev pub part_at : ℕ → ℕ → List ℕ → List ℕ
part_at k n ws = take k (drop n ws)

abbrev pub header : Bool → ℕ → ℕ → ℕ → ℕ → Header
header b gf rf gr rr = record { sorted = b; general_free = gf; reserved_free = rf; general_regions = gr; reserved_regions = rr }

unfoldable pub length_at : WhichList → Header → ℕ
length_at GeneralFree h = h.general_free
length_at ReservedFree h = h.reserved_free
length_at GeneralRegions h = h.general_regions
length_at ReservedRegions h = h.reserved_regions

unfoldable pub with_length : WhichList → Header → ℕ → Header
with_length GeneralFree h n = header h.sorted n h.reserved_free h.general_regions h.reserved_regions
with_length ReservedFree h n = header h.sorted h.general_free n h.general_regions h.reserved_regions
with_length GeneralRegions h n = header h.sorted h.general_free h.reserved_free n h.reserved_regions
with_length ReservedRegions h n = header h.sorted h.general_free h.reserved_free h.general_regions n

-- one of the lists, as it goes by value
abbrev pub part_in : WhichList → Header → Part
part_in w h = record { sorted = h.sorted; len = length_at w h }

-- the lists of a header and the entries
abbrev pub one_in : WhichList → Header → List ℕ → List Slot
one_in w h ws = pairs_in h.sorted (length_at w h) (part_at (width h.sorted) (part_of (width h.sorted) w) ws)

unfoldable pub lists_in : Header → List ℕ → Lists
lists_in h ws = record {
  sorted = h.sorted;
  general_free = one_in GeneralFree h ws;
  reserved_free = one_in ReservedFree h ws;
  general_regions = one_in GeneralRegions h ws;
  reserved_regions = one_in ReservedRegions h ws;
}

-- and back
unfoldable pub header_of : Lists → Header
header_of l = header l.sorted (length_in l.sorted l.general_free) (length_in l.sorted l.reserved_free) (length_in l.sorted l.general_regions) (length_in l.sorted l.reserved_regions)

abbrev pub four : ℕ → ℕ
four k = k + k + k + k

unfoldable pub entries_of : Lists → List ℕ → List ℕ
entries_of l ws =
    part_words l.sorted l.general_free
    ++ (part_words l.sorted l.reserved_free
    ++ (part_words l.sorted l.general_regions
    ++ (part_words l.sorted l.reserved_regions
    ++ drop (four (width l.sorted)) ws)))

-- one of the model's lists, and the lists with another in its place
abbrev four_slots : Bool → List Slot → List Slot → List Slot → List Slot → Lists
four_slots b gf rf gr rr = record { sorted = b; general_free = gf; reserved_free = rf; general_regions = gr; reserved_regions = rr }

unfoldable pub slots_at : WhichList → Lists → List Slot
slots_at GeneralFree l = l.general_free
slots_at ReservedFree l = l.reserved_free
slots_at GeneralRegions l = l.general_regions
slots_at ReservedRegions l = l.reserved_regions

unfoldable pub with_slots : WhichList → Lists → List Slot → Lists
with_slots GeneralFree l s = four_slots l.sorted s l.reserved_free l.general_regions l.reserved_regions
with_slots ReservedFree l s = four_slots l.sorted l.general_free s l.general_regions l.reserved_regions
with_slots GeneralRegions l s = four_slots l.sorted l.general_free l.reserved_free s l.reserved_regions
with_slots ReservedRegions l s = four_slots l.sorted l.general_free l.reserved_free l.general_regions s

-- a header and entries that keep the rules
pub record Ruled (h : Header) (ws : List ℕ) : Type 0 where
  pub long : four (width h.sorted) ≤ length ws
  pub parts : (w : WhichList) → IsPart h.sorted (length_at w h) (part_at (width h.sorted) (part_of (width h.sorted) w) ws)
  pub keeps : rules (lists_in h ws) ≡ true

abbrev pub handed_with : Answer → Header → HandedBack
handed_with x h = record { answer = x; header = h }

-- what a call did, or why it is refused: then the header is as it was
abbrev pub answered_by : Header → Outcome HandedBack Refusal → HandedBack
answered_by h (Ok d) = d
answered_by h (Err r) = handed_with (refused_answer r) h

-- what a call does: its answer, and the header and every word of the entries that store the lists after it
pub record Does (r : Result) (before : List ℕ) (d : HandedBack) (after : List ℕ) : Type 0 where
  pub answers : d.answer ≡ r.answer
  pub header : d.header ≡ header_of r.lists
  pub words : after ≡ entries_of r.lists before
