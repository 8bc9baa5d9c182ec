-- A grant from one of the four lists: refused, or done.
use Prim.Native.Nat.{ℕ, ◌+◌, ◌-◌, ◌≤◌, ◌<◌}
use mathlib.Core.Path.{◌≡◌, refl, sym, ap, subst, ◌∙◌}
use mathlib.Core.List.{List}
use lib.ListN.{take, drop}
use borrow.Author.Tests.{lt-ltb, le-ltb, ltb-true, ltb-false}
use borrow.Rule.Slice.PartMut.{put_mid}
use Rattle.std.specs.Prelude.{Option, None, Some}
use Rattle.memory_structs.specs.declared.range.FrameRange.{FrameRange}
use Rattle.model.specs.Lists.{Lists, Slot, bound}
use Rattle.model.specs.Requests.{Result, without_frames, refused, granted, take_general, take_reserved}
use Rattle.lists.specs.declared.Part.{Part}
use Rattle.lists.specs.declared.header.WhichList.{WhichList}
use Rattle.lists.specs.declared.header.WhichList.TheVariants.{GeneralFree, ReservedFree}
use Rattle.lists.specs.declared.header.Header.{Header}
use Rattle.lists.specs.declared.header.HandedBack.{HandedBack}
use Rattle.lists.specs.Part.{Stored, width, part_slots}
use Rattle.lists.specs.Whole.{part_of, part_in, with_length, lists_in, slots_at, with_slots, header_of, entries_of, Ruled, Does, handed_with}
use Rattle.lists.proofs.Whole.{lent_as, lent_from, lent_back, same_part, does_refuse}
use Rattle.request_search.specs.declared.Chosen.{Chosen}
use Rattle.request_grants.specs.Grants.{Chooses, grant_of, entries_left, TakesOut}
use Rattle.request_taking.specs.Takes.{taken, granted_with, AllStored}

-- from the general list and from the reserved one, as the model has it
module _ (c : Chosen) (asked : FrameRange) (l : Lists) where
  pub general_taken : taken GeneralFree c asked l ≡ take_general l c.first c.many c.range asked
  unfolding taken take_general entries_left grant_of slots_at with_slots
  general_taken = refl

  pub reserved_taken : taken ReservedFree c asked l ≡ take_reserved l c.first c.many c.range asked
  unfolding taken take_reserved entries_left grant_of slots_at with_slots
  reserved_taken = refl

-- a grant answers its range
pub does_grant : {l : Lists} {ws : List ℕ} {h : Header} {after : List ℕ} (asked : FrameRange) (d : HandedBack) → d ≡ granted_with asked h → AllStored l ws h after
    → (r : Result) → r ≡ granted asked l → Does r ws d after
unfolding granted
does_grant {ws = ws} asked d e st r o = record {
  answers = ap (λ (x : HandedBack). x.answer) e ∙ sym (ap (λ (x : Result). x.answer) o);
  header = ap (λ (x : HandedBack). x.header) e ∙ st.header ∙ sym (ap (λ (x : Result). header_of x.lists) o);
  words = st.words ∙ sym (ap (λ (x : Result). entries_of x.lists ws) o);
}

module _ (w : WhichList) (c : Chosen) (asked : FrameRange) (h : Header) (ws : List ℕ) where
  abbrev left : ℕ
  left = entries_left h.sorted c asked (slots_at w (lists_in h ws))

  pub no_place_holds : bound h.sorted < left → taken w c asked (lists_in h ws) ≡ refused 18 (lists_in h ws)
  unfolding taken lists_in
  no_place_holds x = rw (lt-ltb (bound h.sorted) left x)

  pub some_place : left ≤ bound h.sorted → taken w c asked (lists_in h ws) ≡ granted asked (with_slots w (lists_in h ws) (grant_of h.sorted c asked (slots_at w (lists_in h ws))))
  unfolding taken lists_in
  some_place x = rw (le-ltb (bound h.sorted) left x)

-- what an operation stores in the lent part of a list stands in the header and the entries
pub lent_stored : (h : Header) (ws : List ℕ) → Ruled h ws → (w : WhichList) {from to : ℕ} → from ≡ part_of (width h.sorted) w → to ≡ part_of (width h.sorted) w + width h.sorted
    → (s : List Slot) (n : ℕ) (after : List ℕ) → Stored h.sorted s n after
    → AllStored (with_slots w (lists_in h ws) s) ws (with_length w h n) (put_mid from (to - from) ws after)
lent_stored h ws u w f t s n after st = let b = lent_back h ws u w f t s n after st in record { header = b.0; words = b.1 }

-- what a list lends for a request, and what that leaves
module _ (h : Header) (ws : List ℕ) (u : Ruled h ws) (w : WhichList) (c : Chosen) (asked : FrameRange) {p : Part} {from to : ℕ} (q : p ≡ part_in w h) (f : from ≡ part_of (width h.sorted) w) (t : to ≡ part_of (width h.sorted) w + width h.sorted) where
  abbrev lent : List ℕ
  lent = take (to - from) (drop from ws)

  abbrev slots : List Slot
  slots = slots_at w (lists_in h ws)

  pub lent_chooses : Chooses h.sorted slots c asked → Chooses p.sorted (part_slots p lent) c asked
  lent_chooses = lent_as h ws u w q f t (λ b s. Chooses b s c asked)

  module _ (r : Option ℕ) (after : List ℕ) (x : TakesOut p.sorted c asked (part_slots p lent) lent r after) where
    here : TakesOut h.sorted c asked slots lent r after
    here = lent_from h ws u w q f t (λ b s. TakesOut b c asked s lent r after) x

    pub does_not_take : r ≡ None → Does (taken w c asked (lists_in h ws)) ws (handed_with (without_frames 18 0) h) (put_mid from (to - from) ws after)
    does_not_take e =
        let z = subst (λ (o : Option ℕ). TakesOut h.sorted c asked slots lent o after) e here in
        subst (Does (taken w c asked (lists_in h ws)) ws (handed_with (without_frames 18 0) h)) (sym (ap (put_mid from (to - from) ws) z.1 ∙ same_part from (to - from) ws))
        (does_refuse h ws u 18 _ (no_place_holds w c asked h ws (ltb-true _ _ z.0)))

    pub does_take : (n : ℕ) → r ≡ Some n → (d : HandedBack) → d ≡ granted_with asked (with_length w h n) → Does (taken w c asked (lists_in h ws)) ws d (put_mid from (to - from) ws after)
    does_take n e d y =
        let z = subst (λ (o : Option ℕ). TakesOut h.sorted c asked slots lent o after) e here in
        does_grant asked d y (lent_stored h ws u w f t _ n after z.1) _ (some_place w c asked h ws (ltb-false _ _ z.0))
