-- A grant from one of the four lists. The words in quotes are document 01's.
use Rattle.std.specs.Prelude.{ℕ, ◌≡◌, List, ltb}
use Rattle.std.specs.Prelude.{if◌then◌else◌}
use Rattle.memory_structs.specs.declared.range.FrameRange.{FrameRange}
use Rattle.model.specs.Lists.{Lists, bound}
use Rattle.model.specs.Requests.{Result, granted_answer, refused, granted}
use Rattle.lists.specs.declared.header.WhichList.{WhichList}
use Rattle.lists.specs.declared.header.Header.{Header}
use Rattle.lists.specs.declared.header.HandedBack.{HandedBack}
use Rattle.lists.specs.Whole.{slots_at, with_slots, header_of, entries_of, handed_with}
use Rattle.request_search.specs.declared.Chosen.{Chosen}
use Rattle.request_grants.specs.Grants.{grant_of, entries_left}

-- 18: "after the call a list would hold more than 32 (early) or 512 (sorted) entries"; else the grant.
-- `general_taken` and `reserved_taken` (proofs/Taken) say that this is the model's `take_general` and `take_reserved`.
unfoldable pub taken : WhichList → Chosen → FrameRange → Lists → Result
taken w c asked l =
    if ltb (bound l.sorted) (entries_left l.sorted c asked (slots_at w l)) then refused 18 l else
    granted asked (with_slots w l (grant_of l.sorted c asked (slots_at w l)))

-- "An accepted call returns number 0, the granted range [..], frame 0", and count 0
abbrev pub granted_with : FrameRange → Header → HandedBack
granted_with r h = handed_with (granted_answer r) h

-- a header and entries store the lists: the lengths, and every word
pub record AllStored (l : Lists) (before : List ℕ) (h : Header) (after : List ℕ) : Type 0 where
  pub header : h ≡ header_of l
  pub words : after ≡ entries_of l before
