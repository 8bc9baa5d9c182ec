-- What growth finds and grants: the whole request leaves the list as it was before; the missing tail leaves it without the request's part
-- of the last chunk. So the code need not put in what it takes out again.
use Prim.Native.Nat.{ℕ, zero, suc, ◌+◌, ◌-◌, ◌≤◌, ◌<◌}
use native.Mathlib.Omega.{arith}
use mathlib.Core.Path.{◌≡◌, refl, sym, ap, ◌∙◌}
use mathlib.Core.Bool.{Bool, true, false}
use mathlib.Core.List.{List, [], ◌∷◌}
use lib.ListN.{length}
use lib.Dec.{leb, ltb}
use borrow.Author.Tests.{ltb-true, leb-true, le-leb, lt-leb, le-ltb, eq-eqb}
use Rattle.std.specs.Prelude.{if◌then◌else◌}
use Rattle.memory_structs.specs.Range.{range, inside}
use Rattle.memory_structs.specs.declared.range.FrameRange.{FrameRange}
use Rattle.std.proofs.lemmas.Bool.{and_from}
use Rattle.memory_structs.proofs.Bools.{if_cases}
use Rattle.model.specs.Lists.{Slot, unused, used, entries, first_where, last_where, later, or_else, range_at, insert, insert_early, insert_sorted, remove, remove_one, replace_at, bound}
use Rattle.std.specs.Prelude.{Option}
use Rattle.std.specs.Prelude.{None, Some}
use Rattle.model.specs.Requests.{not_found, missing, chunks, find, in_early, in_sorted, with_next, grant_from, put_before, put_after, entries_after}
use Rattle.model.specs.Rules.{tidy}
use Rattle.model.proofs.Cover.{count, if_two, Used, Hit, last_hit}
use Rattle.model.proofs.Growth.{none_above, rising_below, tail_rising, last_same, used_below, Tail, missing_tail}
use Rattle.model.proofs.Lawful.{Rising}
use Rattle.model.proofs.Ruled.{tidy_is}

-- the place is that of r in t, and without r the slots are s
unfoldable Stands : Bool → FrameRange → List Slot → List Slot → Option ℕ → Type 0
Stands sorted r s t None = ⊥
Stands sorted r s t (Some i) = (range_at t i ≡ r) × (remove_one sorted i t ≡ s)

later_stands : (sorted : Bool) (r x : FrameRange) (s t : List Slot) (q : Option ℕ) → Stands sorted r s t q → Stands sorted r (used x ∷ s) (used x ∷ t) (later q)
unfolding Stands later range_at remove_one
later_stands sorted r x s t None h = absurd h
later_stands sorted r x s t (Some i) h = (h.0, ap (λ (l : List Slot). used x ∷ l) h.1)

or_stands : (sorted : Bool) (r : FrameRange) (s t : List Slot) (q o : Option ℕ) → Stands sorted r s t q → Stands sorted r s t (or_else q o)
unfolding Stands or_else
or_stands sorted r s t None o h = absurd h
or_stands sorted r s t (Some i) o h = h

-- sorted form: the range that went in is the last that starts at or below its start
sorted_stands : (r : FrameRange) (s : List Slot) (n : ℕ) → Rising n s → Stands true r s (insert_sorted r s) (last_where (λ c. leb c.start r.start) (insert_sorted r s))
unfolding Stands last_where insert_sorted Rising later or_else range_at remove_one
sorted_stands r [] n a = rw (le-leb r.start r.start (omega arith)) (refl, refl)
sorted_stands r (unused ∷ s) n a = absurd a
sorted_stands r (used x ∷ s) n a =
    if_cases (λ t. Stands true r (used x ∷ s) t (last_where (λ c. leb c.start r.start) t)) (ltb r.start x.start)
    (λ e. let above : r.start < x.start = ltb-true _ _ e in
    rw (none_above x.start r.start s a.1 above, lt-leb x.start r.start above, le-leb r.start r.start (omega arith)) (refl, refl))
    (λ e. or_stands true r (used x ∷ s) (used x ∷ insert_sorted r s) (later (last_where (λ c. leb c.start r.start) (insert_sorted r s)))
    (if leb x.start r.start then Some 0 else None)
    (later_stands true r x s (insert_sorted r s) (last_where (λ c. leb c.start r.start) (insert_sorted r s)) (sorted_stands r s x.start a.1)))

-- early form: where nothing held it before, the range that went in is the first that holds it
none_first : (b : Bool) (q : Option ℕ) → (if b then Some 0 else later q) ≡ None → (b ≡ false) × (q ≡ None)
unfolding later
none_first true q e = let w : ◌≡◌ {A = ℕ} 0 1 = cc in absurd (omega arith)
none_first false None e = (refl, refl)
none_first false (Some i) e = let w : ◌≡◌ {A = ℕ} 0 1 = cc in absurd (omega arith)

early_stands : (p : FrameRange → Bool) (r : FrameRange) → p r ≡ true → (s : List Slot) → count s < length s → first_where p s ≡ None
    → Stands false r s (insert_early r s) (first_where p (insert_early r s))
unfolding Stands first_where insert_early later range_at remove_one entries
early_stands p r e [] h n = absurd (omega arith)
early_stands p r e (unused ∷ s) h n = rw e (refl, refl)
early_stands p r e (used x ∷ s) h n =
    let m = none_first (p x) (first_where p s) n in
    rw m.0 (later_stands false r x s (insert_early r s) (first_where p (insert_early r s)) (early_stands p r e s (omega arith) m.1))

none_inside : (s : List Slot) (q : Option ℕ) → in_early s q ≡ not_found → q ≡ None
unfolding in_early
none_inside s None e = refl
none_inside s (Some i) e = let w : ◌≡◌ {A = ℕ} 0 1 = cc in absurd (omega arith)

-- a grant of the whole range at i
whole_granted : (sorted : Bool) (i : ℕ) (r : FrameRange) (t : List Slot) → grant_from sorted i 1 r r t ≡ remove_one sorted i t
unfolding grant_from put_before put_after remove
whole_granted sorted i r t = rw (le-ltb r.start r.start (omega arith), le-ltb r.end r.end (omega arith))

whole_left : (sorted : Bool) (i : ℕ) (r : FrameRange) (t : List Slot) → entries_after sorted i 1 r r t ≡ length (entries (remove_one sorted i t))
unfolding entries_after remove
whole_left sorted i r t = rw (le-ltb r.start r.start (omega arith), le-ltb r.end r.end (omega arith)) (omega arith)

-- growth by the whole request r
pub record WholeGrown (sorted : Bool) (r : FrameRange) (s : List Slot) : Type 0 where
  pub place : ℕ
  pub found : find sorted r (insert sorted r s) ≡ chunks place 1 r
  pub granted : grant_from sorted place 1 r r (insert sorted r s) ≡ s
  pub left : entries_after sorted place 1 r r (insert sorted r s) ≡ length (entries s)
  pub fits : entries_after sorted place 1 r r (insert sorted r s) ≤ bound sorted

grown_at : (sorted : Bool) (r : FrameRange) (s : List Slot) → count s ≤ bound sorted → (i : ℕ)
    → find sorted r (insert sorted r s) ≡ chunks i 1 r → remove_one sorted i (insert sorted r s) ≡ s → WholeGrown sorted r s
grown_at sorted r s few i found out = record {
  place = i;
  found = found;
  granted = whole_granted sorted i r (insert sorted r s) ∙ out;
  left = left;
  fits = omega (arith, left);
}
  where
    left : entries_after sorted i 1 r r (insert sorted r s) ≡ count s
    left = whole_left sorted i r (insert sorted r s) ∙ ap count out

module _ (r : FrameRange) (s : List Slot) (h : r.start ≤ r.end) where
  sorted_grown : count s ≤ bound true → (q : Option ℕ) → q ≡ last_where (λ c. leb c.start r.start) (insert_sorted r s) → Stands true r s (insert_sorted r s) q → WholeGrown true r s
  unfolding Stands find in_sorted insert
  sorted_grown few None e a = absurd a
  sorted_grown few (Some i) e a = grown_at true r s few i (rw (sym e, a.0, le-ltb r.end r.start h, le-leb r.end r.end (omega arith))) a.1

  early_grown : count s ≤ bound false → (q : Option ℕ) → q ≡ first_where (λ c. inside c r) (insert_early r s) → Stands false r s (insert_early r s) q → WholeGrown false r s
  unfolding Stands find in_early insert
  early_grown few None e a = absurd a
  early_grown few (Some i) e a = grown_at false r s few i (rw (sym e, a.0)) a.1

-- early form has room for it; sorted form needs none, since what went in is taken out
pub whole_grown : (sorted : Bool) (r : FrameRange) (s : List Slot) → tidy sorted s ≡ true → (sorted ≡ false → length (entries s) < 32)
    → r.start ≤ r.end → find sorted r s ≡ not_found → WholeGrown sorted r s
unfolding find
whole_grown true r s t room h e =
    let a = tidy_is true s t in
    sorted_grown r s h a.few (last_where (λ c. leb c.start r.start) (insert_sorted r s)) refl (sorted_stands r s 0 a.shape.slots)
whole_grown false r s t room h e =
    let a = tidy_is false s t in
    early_grown r s h a.few (first_where (λ c. inside c r) (insert_early r s)) refl
    (early_stands (λ c. inside c r) r (and_from (leb r.start r.start) (leb r.end r.end) (le-leb r.start r.start (omega arith)) (le-leb r.end r.end (omega arith)))
    s (omega (arith, room refl, a.shape.slots)) (none_inside s (first_where (λ c. inside c r) s) e))

-- the slots without what went in above the last of them, which stands at i
tail_out : (g : FrameRange) (s : List Slot) (n : ℕ) → Rising n s → (i : ℕ) → length s ≡ suc i → (range_at s i).start < g.start → remove_one true (suc i) (insert_sorted g s) ≡ s
unfolding insert_sorted remove_one Rising range_at
tail_out g [] n a i e h = absurd (omega arith)
tail_out g (unused ∷ s) n a i e h = absurd a
tail_out g (used x ∷ []) n a zero e h = rw (le-ltb g.start x.start (omega arith))
tail_out g (used x ∷ []) n a (suc i) e h = absurd (omega arith)
tail_out g (used x ∷ (y ∷ s)) n a zero e h = absurd (omega arith)
tail_out g (used x ∷ (y ∷ s)) n a (suc i) e h =
    let below : x.start ≤ (range_at (y ∷ s) i).start = rising_below (y ∷ s) x.start i a.1 (omega arith) in
    rw (le-ltb g.start x.start (omega arith)) (ap (λ (l : List Slot). used x ∷ l) (tail_out g (y ∷ s) x.start a.1 i (omega arith) h))

-- the last slot taken out, and a range that starts no lower put in
last_replaced : (c : FrameRange) (s : List Slot) (n : ℕ) → Rising n s → (i : ℕ) → length s ≡ suc i → (range_at s i).start ≤ c.start
    → insert_sorted c (remove_one true i s) ≡ replace_at i c s
unfolding insert_sorted remove_one replace_at Rising range_at
last_replaced c [] n a i e h = absurd (omega arith)
last_replaced c (unused ∷ s) n a i e h = absurd a
last_replaced c (used x ∷ []) n a zero e h = refl
last_replaced c (used x ∷ []) n a (suc i) e h = absurd (omega arith)
last_replaced c (used x ∷ (y ∷ s)) n a zero e h = absurd (omega arith)
last_replaced c (used x ∷ (y ∷ s)) n a (suc i) e h =
    let below : x.start ≤ (range_at (y ∷ s) i).start = rising_below (y ∷ s) x.start i a.1 (omega arith) in
    rw (le-ltb c.start x.start (omega arith)) (ap (λ (l : List Slot). used x ∷ l) (last_replaced c (y ∷ s) x.start a.1 i (omega arith) h))

one_fewer : (sorted : Bool) (s : List Slot) (i : ℕ) → Used s i → count (remove_one sorted i s) + 1 ≡ count s
unfolding remove_one Used entries
one_fewer sorted [] i u = absurd u
one_fewer sorted (unused ∷ s) zero u = absurd u
one_fewer true (used x ∷ s) zero u = omega arith
one_fewer false (used x ∷ s) zero u = omega arith
one_fewer sorted (unused ∷ s) (suc i) u = one_fewer sorted s i u
one_fewer sorted (used x ∷ s) (suc i) u = omega (arith, one_fewer sorted s i u)

-- growth by the part g that is missing above the last chunk
pub record TailGrown (r : FrameRange) (s : List Slot) (g : FrameRange) : Type 0 where
  -- the last chunk, which holds the first frame and not the last
  pub place : ℕ
  pub last : place + 1 ≡ length s
  pub before : (range_at s place).start ≤ r.start
  pub first : r.start ≤ (range_at s place).end
  pub begins : g.start ≡ (range_at s place).end + 1
  pub filled : g.start ≤ g.end
  pub ends : g.end ≡ r.end
  pub found : find true r (insert_sorted g s) ≡ chunks place 2 (range (range_at s place).start g.end)
  pub granted : grant_from true place 2 (range (range_at s place).start g.end) r (insert_sorted g s)
      ≡ (if ltb (range_at s place).start r.start then replace_at place (range (range_at s place).start (r.start - 1)) s else remove true place 1 s)
  pub fits : entries_after true place 2 (range (range_at s place).start g.end) r (insert_sorted g s) ≤ bound true

bit : (b : Bool) → (if b then 1 else 0) ≤ 1
bit true = omega arith
bit false = omega arith

-- a grant up to the end of the last chunk at i and of g above it
module _ (r g : FrameRange) (s : List Slot) (i : ℕ) (a : Rising 0 s) (e : length s ≡ suc i) (above : (range_at s i).start < g.start) (ends : g.end ≡ r.end) where
  pair_out : remove true i 2 (insert_sorted g s) ≡ remove_one true i s
  unfolding remove
  pair_out = ap (remove_one true i) (tail_out g s 0 a i e above)

  one_out : remove_one true i s ≡ remove true i 1 s
  unfolding remove
  one_out = refl

  tail_granted : grant_from true i 2 (range (range_at s i).start g.end) r (insert_sorted g s)
      ≡ (if ltb (range_at s i).start r.start then replace_at i (range (range_at s i).start (r.start - 1)) s else remove true i 1 s)
  unfolding grant_from put_before put_after insert
  tail_granted =
      rw (pair_out, le-ltb r.end g.end (omega arith))
      (if_two (λ (l : List Slot). l) (λ (l : List Slot). l) (ltb (range_at s i).start r.start)
      (λ h. last_replaced (range (range_at s i).start (r.start - 1)) s 0 a i e (omega arith))
      (λ h. one_out))

  tail_fits : Used s i → count s ≤ bound true → entries_after true i 2 (range (range_at s i).start g.end) r (insert_sorted g s) ≤ bound true
  unfolding entries_after
  tail_fits u few =
      rw (pair_out, le-ltb r.end g.end (omega arith))
      (omega (arith, one_fewer true s i u, bit (ltb (range_at s i).start r.start)))

pub tail_grown : (r : FrameRange) (s : List Slot) (f n : ℕ) → tidy true s ≡ true → find true r s ≡ missing f n → TailGrown r s (range f (f + n - 1))
unfolding find in_sorted with_next Hit
tail_grown r s f n t h = go (last_where (λ c. leb c.start r.start) s) refl (last_hit (λ c. leb c.start r.start) s) h
  where
    a : Rising 0 s
    a = (tidy_is true s t).shape.slots

    few : count s ≤ bound true
    few = (tidy_is true s t).few

    g : FrameRange
    g = range f (f + n - 1)

    go : (q : Option ℕ) → last_where (λ c. leb c.start r.start) s ≡ q → Hit (λ c. leb c.start r.start) s q → in_sorted r s q ≡ missing f n → TailGrown r s g
    go None e u h = let w : ◌≡◌ {A = ℕ} 0 1 = cc in absurd (omega arith)
    go (Some i) e u h =
        let w : Tail r s i f n = missing_tail r s i f n h in
        let before : (range_at s i).start ≤ r.start = leb-true (range_at s i).start r.start u.0 in
        let last : length s ≡ suc i = omega (arith, w.length, used_below s i u.1) in
        let above : (range_at s i).start < f = omega (arith, w.first, w.from) in
        let ends : f + n - 1 ≡ r.end = omega (arith, w.last, w.from, w.many) in
        let x = tail_rising g s 0 a i last above in
        record {
          place = i;
          last = omega arith;
          before = before;
          first = w.first;
          begins = w.from;
          filled = omega (arith, w.last, w.from);
          ends = ends;
          found = rw (
            last_same r.start g s 0 a (omega (arith, w.first, w.from)),
            e,
            x.1,
            x.2,
            x.0,
            le-ltb (range_at s i).end r.start w.first,
            lt-leb r.end (range_at s i).end w.last,
            lt-leb (suc (suc i)) (suc i) (omega arith),
            eq-eqb f ((range_at s i).end + 1) w.from,
            le-leb r.end (f + n - 1) (omega arith),
          );
          granted = tail_granted r g s i a last above ends;
          fits = tail_fits r g s i a last above ends u.1 few;
        }
