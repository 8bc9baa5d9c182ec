-- Growth: what refuses it, and growth by the whole request.
use Prim.Native.Nat.{ℕ, ◌+◌, ◌-◌, ◌≤◌, ◌<◌}
use mathlib.Core.Path.{◌≡◌, refl, ap, subst, ◌∙◌}
use mathlib.Core.Bool.{Bool, true, false, not, ◌&&◌}
use mathlib.Core.List.{List}
use lib.Dec.{leb}
use lib.ListN.{length, take, drop}
use borrow.Author.Tests.{leb-false, le-leb, lt-leb, le-ltb}
use borrow.Rule.Slice.PartMut.{put_mid}
use Rattle.std.specs.Prelude.{if◌then◌else◌}
use Rattle.memory_structs.specs.Range.{meets}
use Rattle.memory_structs.specs.declared.range.FrameRange.{FrameRange}
use Rattle.memory_structs.proofs.Bools.{neither_first, neither_second}
use Rattle.model.specs.Lists.{Lists, Slot, entries, any_of, insert, bound}
use Rattle.model.specs.Requests.{Result, not_found, find, entries_after, refused, granted, with_reserved, from_grown, no_room_to_grow, grow}
use Rattle.model.specs.Rules.{slotted, tidy}
use Rattle.model.proofs.Ruled.{is_slotted, tidy_is}
use Rattle.lists.specs.declared.header.Header.{Header}
use Rattle.lists.specs.declared.header.WhichList.{WhichList}
use Rattle.lists.specs.declared.header.WhichList.TheVariants.{ReservedFree, ReservedRegions}
use Rattle.lists.specs.declared.Part.{Part}
use Rattle.lists.specs.Part.{Stored, width, part_slots}
use Rattle.lists.specs.Whole.{part_of, part_in, with_length, lists_in, slots_at, with_slots, answered_by, Ruled, Does}
use Rattle.lists.proofs.Whole.{tidy_list, lent_from, does_refuse}
use Rattle.request_search.proofs.Grown.{whole_grown}
use Rattle.request_taking.specs.Takes.{AllStored}
use Rattle.request_taking.proofs.Taken.{lent_stored}
use Rattle.std.specs.Prelude.{Result as Outcome}
use Rattle.std.specs.Prelude.{Ok, Err}
use Rattle.model.specs.declared.refusals.Refusal.{Refusal}
use Rattle.model.specs.declared.refusals.Refusal.TheVariants.{NotFree, MeetsReservedRegion, NoPlace}
use Rattle.request_growth.specs.Grows.{growth_check}

-- no room, test by test
module _ (l : Lists) where
  pub full_regions : bound l.sorted ≤ length (entries l.reserved_regions) → true ≡ no_room_to_grow l
  unfolding no_room_to_grow
  full_regions h = rw (le-leb (bound l.sorted) (length (entries l.reserved_regions)) h)

  module _ (h : length (entries l.reserved_regions) < bound l.sorted) where
    pub room_sorted : l.sorted ≡ true → false ≡ no_room_to_grow l
    unfolding no_room_to_grow
    room_sorted e = rw (lt-leb (bound l.sorted) (length (entries l.reserved_regions)) h, e)

    pub room_early : l.sorted ≡ false → leb 32 (length (entries l.reserved_free)) ≡ no_room_to_grow l
    unfolding no_room_to_grow
    room_early e = rw (lt-leb (bound l.sorted) (length (entries l.reserved_regions)) h, e)

  -- what room says
  module _ (z : no_room_to_grow l ≡ false) where
    pub room_regions_holds : length (entries l.reserved_regions) < bound l.sorted
    unfolding no_room_to_grow
    room_regions_holds = leb-false _ _ (neither_first (leb (bound l.sorted) (length (entries l.reserved_regions))) _ z)

    room_free_holds : l.sorted ≡ false → length (entries l.reserved_free) < 32
    unfolding no_room_to_grow
    room_free_holds e =
        let n : (not l.sorted && leb 32 (length (entries l.reserved_free))) ≡ false = neither_second (leb (bound l.sorted) (length (entries l.reserved_regions))) _ z in
        leb-false _ _ (rw e at n)

module _ (l : Lists) (g : FrameRange) where
  abbrev in_general_region : Bool
  in_general_region = any_of (meets g) (entries l.general_regions)

  abbrev in_reserved_region : Bool
  in_reserved_region = any_of (meets g) (entries l.reserved_regions)

  pub thirteen : in_general_region ≡ true → Err NotFree ≡ growth_check g l
  unfolding growth_check
  thirteen x = rw x

  module _ (x : in_general_region ≡ false) where
    pub sixteen : in_reserved_region ≡ true → Err MeetsReservedRegion ≡ growth_check g l
    unfolding growth_check
    sixteen y = rw (x, y)

    module _ (y : in_reserved_region ≡ false) where
      pub eighteen : no_room_to_grow l ≡ true → Err NoPlace ≡ growth_check g l
      unfolding growth_check
      eighteen z = rw (x, y, z)

      pub no_refusal : no_room_to_grow l ≡ false → Ok tt ≡ growth_check g l
      unfolding growth_check
      no_refusal z = rw (x, y, z)

  -- what it says of a part that may become a region
  pub record Open : Type 0 where
    pub general : in_general_region ≡ false
    pub reserved : in_reserved_region ≡ false
    pub room : no_room_to_grow l ≡ false

  abbrev check : Bool → Bool → Bool → Outcome (Unit {0}) Refusal
  check x y z = if x then Err NotFree else if y then Err MeetsReservedRegion else if z then Err NoPlace else Ok tt

  pub open_growth : growth_check g l ≡ Ok tt → Open
  unfolding growth_check
  open_growth e = go in_general_region in_reserved_region (no_room_to_grow l) refl refl refl e
    where
      go : (x y z : Bool) → in_general_region ≡ x → in_reserved_region ≡ y → no_room_to_grow l ≡ z → check x y z ≡ Ok tt → Open
      go true y z p q r h = absurd (cc)
      go false true z p q r h = absurd (cc)
      go false false true p q r h = absurd (cc)
      go false false false p q r h = record { general = p; reserved = q; room = r }

  -- the lists once g is a reserved region and a reserved chunk
  abbrev pub grown : Lists
  grown = with_reserved l (insert l.sorted g l.reserved_free) (insert l.sorted g l.reserved_regions)

  pub grow_on : Open → (r : FrameRange) → grow l g r ≡ from_grown l grown r (find l.sorted r (insert l.sorted g l.reserved_free))
  unfolding grow
  grow_on o r = rw (o.general, o.reserved, o.room)

-- a part that may not leaves the lists
pub growth_refused : (h : Header) (ws : List ℕ) → Ruled h ws → (g r : FrameRange) (e : Refusal) → growth_check g (lists_in h ws) ≡ Err e → Does (grow (lists_in h ws) g r) ws (answered_by h (Err e)) ws
unfolding grow growth_check
growth_refused h ws u g r e k =
    go (in_general_region l g) (in_reserved_region l g) (no_room_to_grow l) (from_grown l (grown l g) r (find l.sorted r (insert l.sorted g l.reserved_free))) k
  where
    l : Lists
    l = lists_in h ws

    go : (x y z : Bool) (o : Result) → check l g x y z ≡ Err e →
        Does (if x then refused 13 l else if y then refused 16 l else if z then refused 18 l else o) ws (answered_by h (Err e)) ws
    go true y z o p = let q : NotFree ≡ e = cc in subst (λ (x : Refusal). Does (refused 13 l) ws (answered_by h (Err x)) ws) q (does_refuse h ws u 13 _ refl)
    go false true z o p = let q : MeetsReservedRegion ≡ e = cc in subst (λ (x : Refusal). Does (refused 16 l) ws (answered_by h (Err x)) ws) q (does_refuse h ws u 16 _ refl)
    go false false true o p = let q : NoPlace ≡ e = cc in subst (λ (x : Refusal). Does (refused 18 l) ws (answered_by h (Err x)) ws) q (does_refuse h ws u 18 _ refl)
    go false false false o p = absurd (cc)

-- the whole request: the free list stays as it is
pub whole_growth : (l : Lists) (r : FrameRange) → tidy l.sorted l.reserved_free ≡ true → r.start ≤ r.end → find l.sorted r l.reserved_free ≡ not_found → Open l r →
    grow l r r ≡ granted r (with_slots ReservedRegions l (insert l.sorted r l.reserved_regions))
unfolding from_grown with_slots
whole_growth l r t h n o =
    let w = whole_grown l.sorted r l.reserved_free t (room_free_holds l o.room) h n in
    grow_on l r o r ∙ ap (from_grown l (grown l r) r) w.found
    ∙ rw (le-ltb (bound l.sorted) (entries_after l.sorted w.place 1 r r (insert l.sorted r l.reserved_free)) w.fits, w.granted) refl

pub tidy_chunks : (h : Header) (ws : List ℕ) → Ruled h ws → tidy (lists_in h ws).sorted (lists_in h ws).reserved_free ≡ true
unfolding slots_at
tidy_chunks h ws u = tidy_list (lists_in h ws) u.keeps ReservedFree

-- a tidy list is in the shape that an insert asks for
pub tidy_slotted : (b : Bool) (s : List Slot) → tidy b s ≡ true → slotted b s ≡ true
tidy_slotted b s t = is_slotted b s (tidy_is b s t).shape.slots

-- what an operation makes of the lent part of a list stands in the header and the entries
pub lent_changed : (f : Bool → List Slot → List Slot) (h : Header) (ws : List ℕ) (u : Ruled h ws) (w : WhichList) {p : Part} {from to : ℕ}
    → p ≡ part_in w h → from ≡ part_of (width h.sorted) w → to ≡ part_of (width h.sorted) w + width h.sorted → {m : ℕ} {after : List ℕ}
    → Stored p.sorted (f p.sorted (part_slots p (take (to - from) (drop from ws)))) m after
    → AllStored (with_slots w (lists_in h ws) (f h.sorted (slots_at w (lists_in h ws)))) ws (with_length w h m) (put_mid from (to - from) ws after)
lent_changed f h ws u w q e t {m = m} {after = after} st =
    lent_stored h ws u w e t (f h.sorted (slots_at w (lists_in h ws))) m after (lent_from h ws u w q e t (λ b s. Stored b (f b s) m after) st)
