-- An allocator as a header and entries, and back. The words in quotes are document 01's.
use Rattle.std.specs.Prelude.{ℕ, ◌≤◌, ◌≡◌, Bool, true, false, ◌&&◌, List, [], ◌∷◌, ◌++◌, length}
use Rattle.model.specs.Lists.{Lists}
use Rattle.model.specs.Store.{flag, is_set, early_of, slot_words}
use Rattle.model.specs.declared.EarlyList.{EarlyList}
use Rattle.model.specs.declared.FrameAllocator.{FrameAllocator}
use Rattle.pairs.specs.Pairs.{pair_slots, IsPairs}
use Rattle.lists.specs.Whole.{part_at, header}
use Rattle.lists.specs.declared.header.Header.{Header}

-- ---- opened

-- starts and ends, pair by pair
unfoldable pub interleaved : List ℕ → List ℕ → List ℕ
interleaved (s ∷ ss) (e ∷ es) = s ∷ e ∷ interleaved ss es
interleaved (s ∷ ss) [] = []
interleaved [] es = []

-- the slots of an early record
unfoldable pub packed : FrameAllocator → List ℕ
packed a =
    interleaved a.general_free.starts a.general_free.ends
    ++ (interleaved a.reserved_free.starts a.reserved_free.ends
    ++ (interleaved a.general_regions.starts a.general_regions.ends
    ++ (interleaved a.reserved_regions.starts a.reserved_regions.ends ++ [])))

-- The packing law: of a record that keeps the rules in early form these are the words of its lists (`pack_lists`), and the record that is
-- closed with the words of lists is the one that stores them (`close_lists`, proofs/Packed).
unfoldable pub packed_lists : Lists → List ℕ
packed_lists l = slot_words l.general_free ++ (slot_words l.reserved_free ++ (slot_words l.general_regions ++ (slot_words l.reserved_regions ++ [])))

-- the form and the tables' lengths, as the record has them
abbrev pub header_in : FrameAllocator → Header
header_in a = header (is_set a.sorted) a.general_free_len a.reserved_free_len a.general_regions_len a.reserved_regions_len

-- the header and, in early form, the slots
pub record Apart (a : FrameAllocator) (h : Header) (after : List ℕ) : Type 0 where
  pub header : h ≡ header_in a
  pub slots : is_set a.sorted ≡ false → after ≡ packed a

-- ---- closed

-- four lists of 32 pairs
pub record Unpackable (ws : List ℕ) : Type 0 where
  pub long : 256 ≤ length ws
  pub general_free : IsPairs (part_at 64 0 ws)
  pub reserved_free : IsPairs (part_at 64 64 ws)
  pub general_regions : IsPairs (part_at 64 128 ws)
  pub reserved_regions : IsPairs (part_at 64 192 ws)

-- in sorted form before and after no slot is used, and the record has them as they are to be; else they are written
unfoldable pub Closable : Bool → List ℕ → Type 0
Closable true ws = Unit {0}
Closable false ws = Unpackable ws

-- one list: as it was, or its pairs
unfoldable pub list_after : Bool → EarlyList → List ℕ → EarlyList
list_after true e ws = e
list_after false e ws = early_of (pair_slots 32 ws)

unfoldable pub closed : FrameAllocator → Header → List ℕ → FrameAllocator
closed a h ws = record {
  sorted = flag h.sorted;
  general_free = list_after (is_set a.sorted && h.sorted) a.general_free (part_at 64 0 ws);
  reserved_free = list_after (is_set a.sorted && h.sorted) a.reserved_free (part_at 64 64 ws);
  general_regions = list_after (is_set a.sorted && h.sorted) a.general_regions (part_at 64 128 ws);
  reserved_regions = list_after (is_set a.sorted && h.sorted) a.reserved_regions (part_at 64 192 ws);
  general_free_len = h.general_free;
  reserved_free_len = h.reserved_free;
  general_regions_len = h.general_regions;
  reserved_regions_len = h.reserved_regions;
}
