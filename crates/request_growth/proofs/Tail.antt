-- Growth by the missing tail: the last chunk gives its frames from the request's start on, and the tail is a new region.
use Prim.Native.Nat.{ℕ, ◌+◌, ◌-◌, ◌≤◌, ◌<◌}
use native.Mathlib.Omega.{arith}
use mathlib.Core.Path.{◌≡◌, refl, sym, ap, subst, ◌∙◌}
use mathlib.Core.Bool.{Bool, true, false, true≢false}
use mathlib.Core.List.{List, [], ◌∷◌}
use lib.Dec.{ltb}
use lib.ListN.{length}
use borrow.Author.Tests.{ltb-true, ltb-false, le-ltb}
use Rattle.std.specs.Prelude.{if◌then◌else◌}
use Rattle.memory_structs.specs.Range.{range}
use Rattle.memory_structs.specs.declared.range.FrameRange.{FrameRange}
use Rattle.model.specs.Lists.{Lists, Slot, used, entries, range_at, insert, insert_sorted, remove, replace_at, bound}
use Rattle.model.specs.Requests.{missing, chunks, find, grant_from, entries_after, granted, take_reserved, from_grown, grow}
use Rattle.model.specs.Rules.{tidy}
use Rattle.model.proofs.Lawful.{Lawful, Holds, Fit, find_fit, one_holds}
use Rattle.model.proofs.Steps.{take_reserved_holds}
use Rattle.tables.proofs.Spaced.{tidy_spaced}
use Rattle.lists.specs.declared.header.WhichList.TheVariants.{ReservedFree, ReservedRegions}
use Rattle.lists.specs.Whole.{with_slots}
use Rattle.request_search.specs.declared.Chosen.{Chosen}
use Rattle.request_grants.specs.Grants.{Chooses, grant_of, entries_left, instead}
use Rattle.request_grants.proofs.Grant.{grant_none, grant_before}
use Rattle.request_grants.proofs.Places.{replaced_one}
use Rattle.request_grants.proofs.Entries.{leftover_bound, no_leftover, taken_out, left_is}
use Rattle.model.proofs.Stored.{Storable}
use Rattle.request_search.proofs.Grown.{TailGrown}
use Rattle.request_growth.proofs.Growing.{Open, grown, grow_on}

-- the last of the slots, as one chunk
pub record LastChunk (s : List Slot) (c : Chosen) : Type 0 where
  pub last : c.first + 1 ≡ length s
  pub one : c.many ≡ 1
  pub is : c.range ≡ range_at s c.first

-- only sorted form misses a tail
pub missing_sorted : (l : Lists) (r : FrameRange) (f n : ℕ) → Lawful l → find l.sorted r l.reserved_free ≡ missing f n → l.sorted ≡ true
unfolding Fit
missing_sorted l r f n a e = (subst (Fit l.sorted r l.reserved_free) e (find_fit l.sorted r l.reserved_free a.shape_rf)).0

module _ (s : List Slot) (r g : FrameRange) (t : tidy true s ≡ true) (w : TailGrown r s g) (c : Chosen) (k : LastChunk s c) where
  same : w.place ≡ c.first
  same = omega (arith, w.last, k.last)

  begins : c.range.start ≡ (range_at s c.first).start
  begins = ap (λ (x : FrameRange). x.start) k.is

  ends : c.range.end ≡ (range_at s c.first).end
  ends = ap (λ (x : FrameRange). x.end) k.is

  starts : (range_at s w.place).start ≡ c.range.start
  starts = ap (λ (j : ℕ). (range_at s j).start) same ∙ sym begins

  pub tail_chooses : Chooses true s c (range r.start c.range.end)
  tail_chooses =
      let p : (range_at s w.place).start ≡ (range_at s c.first).start = ap (λ (j : ℕ). (range_at s j).start) same in
      let q : (range_at s w.place).end ≡ (range_at s c.first).end = ap (λ (j : ℕ). (range_at s j).end) same in
      let z : c.first + (c.many - 1) ≡ c.first = omega (arith, k.one) in
      record {
        some = omega (arith, k.one);
        in_list = omega (arith, k.one, k.last);
        one = λ e. absurd (true≢false e);
        begins = begins;
        ends = ends ∙ ap (λ (j : ℕ). (range_at s j).end) (sym z);
        from = omega (arith, begins, w.before);
        filled = omega (arith, ends, w.first);
        to = omega arith;
      }

  -- what the model takes from the last chunk and the new one is what is taken from the last chunk alone
  pub tail_granted : grant_from true w.place 2 (range (range_at s w.place).start g.end) r (insert_sorted g s) ≡ grant_of true c (range r.start c.range.end) s
  tail_granted = w.granted ∙ go (ltb (range_at s w.place).start r.start) refl
    where
      go : (b : Bool) → ltb (range_at s w.place).start r.start ≡ b →
          (if b then replace_at w.place (range (range_at s w.place).start (r.start - 1)) s else remove true w.place 1 s) ≡ grant_of true c (range r.start c.range.end) s
      go true e =
          let h : c.range.start < r.start = omega (arith, ltb-true (range_at s w.place).start r.start e, starts) in
          (λ i. replace_at (same i) (range (starts i) (r.start - 1)) s)
          ∙ replaced_one c.first (range c.range.start (r.start - 1)) s (omega (arith, k.last))
          ∙ ap (λ (m : ℕ). instead c.first m (used (range c.range.start (r.start - 1)) ∷ []) s) (sym k.one)
          ∙ sym (grant_before s c (range r.start c.range.end) (tidy_spaced s t) tail_chooses h (omega arith))
      go false e =
          let h : r.start ≤ c.range.start = omega (arith, ltb-false (range_at s w.place).start r.start e, starts) in
          (λ i. remove true (same i) (sym k.one i) s) ∙ sym (grant_none s c (range r.start c.range.end) (tidy_spaced s t) tail_chooses h (omega arith))

  -- and it fits
  pub tail_left : length (entries s) ≤ bound true → Storable true s → entries_left true c (range r.start c.range.end) s ≤ bound true
  tail_left few v = omega (arith, taken_out c (range r.start c.range.end) v tail_chooses, left_is c (range r.start c.range.end) v tail_chooses, leftover_bound c.range.start r.start, no_leftover c.range.end c.range.end (omega arith), k.one, w.last)

-- the lists after growth by the tail
module _ (l : Lists) (r g : FrameRange) (w : TailGrown r l.reserved_free g) (t : tidy true l.reserved_free ≡ true) (e : l.sorted ≡ true) (c : Chosen) (k : LastChunk l.reserved_free c) where
  abbrev s : List Slot
  s = l.reserved_free

  abbrev both : FrameRange
  both = range (range_at s w.place).start g.end

  found : find l.sorted r (insert l.sorted g s) ≡ chunks w.place 2 both
  unfolding insert
  found = subst (λ (b : Bool). find b r (insert b g s) ≡ chunks w.place 2 both) (sym e) w.found

  fits : entries_after l.sorted w.place 2 both r (insert l.sorted g s) ≤ bound l.sorted
  unfolding insert
  fits = subst (λ (b : Bool). entries_after b w.place 2 both r (insert b g s) ≤ bound b) (sym e) w.fits

  left : grant_from l.sorted w.place 2 both r (insert l.sorted g s) ≡ grant_of l.sorted c (range r.start c.range.end) s
  unfolding insert
  left = subst (λ (b : Bool). grant_from b w.place 2 both r (insert b g s) ≡ grant_of b c (range r.start c.range.end) s) (sym e) (tail_granted s r g t w c k)

  pub tail_growth : Open l g → grow l g r ≡ granted r (with_slots ReservedRegions (with_slots ReservedFree l (grant_of l.sorted c (range r.start c.range.end) s)) (insert l.sorted g l.reserved_regions))
  unfolding from_grown with_slots
  tail_growth o =
      grow_on l g o r ∙ ap (from_grown l (grown l g) r) found
      ∙ rw (le-ltb (bound l.sorted) (entries_after l.sorted w.place 2 both r (insert l.sorted g s)) fits, left) refl

-- a chunk without the frames that are taken leaves lawful lists
pub cut_lawful : (l : Lists) (c : Chosen) (asked : FrameRange) → Lawful l → Chooses l.sorted l.reserved_free c asked → c.many ≡ 1 → c.range ≡ range_at l.reserved_free c.first →
    entries_left l.sorted c asked l.reserved_free ≤ bound l.sorted → Lawful (with_slots ReservedFree l (grant_of l.sorted c asked l.reserved_free))
unfolding with_slots grant_of entries_left take_reserved granted
cut_lawful l c asked a h one is fits =
    let x = one_holds l.sorted l.reserved_free asked c.first a.shape_rf (omega (arith, h.from, h.begins)) (omega (arith, h.to, ap (λ (y : FrameRange). y.end) is)) in
    let y : Holds l.sorted l.reserved_free asked c.first c.many c.range =
    subst (λ (m : ℕ). Holds l.sorted l.reserved_free asked c.first m c.range) (sym one)
    (subst (λ (z : FrameRange). Holds l.sorted l.reserved_free asked c.first 1 z) (sym is) x) in
    let g = take_reserved_holds l c.first c.many c.range asked a h.filled y in
    rw (le-ltb (bound l.sorted) (entries_after l.sorted c.first c.many c.range asked l.reserved_free) fits) at g.lawful
