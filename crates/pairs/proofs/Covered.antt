-- How many frames of a range a list of slots has, and what that says of the slots.
use mathlib.Core.Path.{◌≡◌, refl, sym, ap, subst, ◌∙◌}
use mathlib.Core.Bool.{Bool, true, false, false≢true}
use mathlib.Core.List.{List, [], ◌∷◌}
use Prim.Native.Nat.{ℕ, zero, suc, ◌+◌, ◌-◌, ◌≤◌, ◌<◌}
use native.Mathlib.Omega.{arith}
use lib.Dec.{leb, ltb}
use borrow.Author.Tests.{leb-true, leb-false, ltb-true, ltb-false}
use Rattle.std.specs.Prelude.{Option, None, Some, is_some}
use Rattle.memory_structs.specs.Range.{range, size, common, inside, top}
use Rattle.memory_structs.specs.declared.range.FrameRange.{FrameRange}
use Rattle.memory_structs.proofs.Cover.{cov, cov_in, cov_cases}
use Rattle.memory_structs.proofs.Bools.{both_first, both_second}
use Rattle.model.specs.Lists.{Slot, unused, used, entries, first_where, range_at, sum, in_union}
use Rattle.model.proofs.Cover.{tally, Hit, first_hit, range_at_tally}
use Rattle.model.proofs.Lawful.{AllSound, union_tally}
use Rattle.model.proofs.Ruled.{is_union}
use Rattle.pairs.specs.Frames.{frames_in}

-- frame by frame: the first frame of a range, and one frame more at its end
one_frame : (a : ℕ) (x : FrameRange) → size (common (range a (a + 0)) x) ≡ cov x a
unfolding cov
one_frame a x = omega arith

one_more : (a n : ℕ) (x : FrameRange) → size (common (range a (a + suc n)) x) ≡ size (common (range a (a + n)) x) + cov x (a + suc n)
one_more a n x = cov_cases x (a + suc n) (λ u v w. omega arith) (λ u w. omega arith) (λ u w. omega arith)

-- the frames that the slots have from a on, in n + 1 frames
abbrev on_from : ℕ → ℕ → List Slot → ℕ
on_from a n s = frames_in (range a (a + n)) (entries s)

first_frame : (a : ℕ) (s : List Slot) → on_from a 0 s ≡ tally a s
unfolding frames_in entries tally
first_frame a [] = refl
first_frame a (unused ∷ s) = first_frame a s
first_frame a (used x ∷ s) = omega (arith, one_frame a x, first_frame a s)

next_frame : (a n : ℕ) (s : List Slot) → on_from a (suc n) s ≡ on_from a n s + tally (a + suc n) s
unfolding frames_in entries tally
next_frame a n [] = refl
next_frame a n (unused ∷ s) = next_frame a n s
next_frame a n (used x ∷ s) = omega (arith, one_more a n x, next_frame a n s)

-- of slots that have no frame twice
module _ (s : List Slot) (once : (f : ℕ) → tally f s ≤ 1) (a : ℕ) where
  -- they have no more frames of a range than there are
  no_more : (n : ℕ) → on_from a n s ≤ n + 1
  no_more zero = omega (arith, first_frame a s, once a)
  no_more (suc n) = omega (arith, next_frame a n s, once (a + suc n), no_more n)

  -- and where they have as many, they have each
  each_frame : (n : ℕ) → n < on_from a n s → (f : ℕ) → a ≤ f → f ≤ a + n → 0 < tally f s
  each_frame zero h f p q = let e : a ≡ f = omega arith in omega (arith, first_frame a s, ap (λ (g : ℕ). tally g s) e)
  each_frame (suc n) h f p q = go (leb f (a + n)) refl (each_frame n (omega (arith, next_frame a n s, once (a + suc n))) f p)
    where
      go : (b : Bool) → leb f (a + n) ≡ b → (f ≤ a + n → 0 < tally f s) → 0 < tally f s
      go true e ih = ih (leb-true _ _ e)
      go false e ih =
          let last : a + suc n ≡ f = omega (arith, leb-false f (a + n) e) in
          omega (arith, next_frame a n s, no_more n, ap (λ (g : ℕ). tally g s) last)

  all_frames : (n : ℕ) → ((f : ℕ) → a ≤ f → f ≤ a + n → 0 < tally f s) → n < on_from a n s
  all_frames zero h = omega (arith, first_frame a s, h a (omega arith) (omega arith))
  all_frames (suc n) h = omega (arith, next_frame a n s, h (a + suc n) (omega arith) (omega arith), all_frames n (λ f p q. h f p (omega arith)))

  -- so the number tells whether the range lies in the union
  pub counted : (e : ℕ) → a ≤ e → ltb (e - a) (frames_in (range a e) (entries s)) ≡ in_union (entries s) (range a e)
  counted e h = go (ltb (e - a) (frames_in (range a e) (entries s))) (in_union (entries s) (range a e)) refl refl
    where
      same : frames_in (range a e) (entries s) ≡ on_from a (e - a) s
      same = let n : e ≡ a + (e - a) = omega arith in ap (λ (m : ℕ). frames_in (range a m) (entries s)) n

      go : (x y : Bool) → ltb (e - a) (frames_in (range a e) (entries s)) ≡ x → in_union (entries s) (range a e) ≡ y → x ≡ y
      go true true p q = refl
      go false false p q = refl
      go true false p q = absurd (false≢true (sym q ∙ is_union s (range a e) h (λ f u v. each_frame (e - a) (omega (arith, ltb-true (e - a) (frames_in (range a e) (entries s)) p, same)) f u (omega arith))))
      go false true p q = absurd (omega (arith, ltb-false (e - a) (frames_in (range a e) (entries s)) p, same, all_frames (e - a) (λ f u v. union_tally s (range a e) q f u (omega arith))))

-- a slot that has the range whole has each frame of it
hit_union : (r : FrameRange) (s : List Slot) (q : Option ℕ) → r.start ≤ r.end → Hit (λ c. inside c r) s q → is_some q ≡ true → in_union (entries s) r ≡ true
unfolding Hit
hit_union r s None h hit e = absurd (false≢true e)
hit_union r s (Some i) h hit e =
    let low : (range_at s i).start ≤ r.start = leb-true _ _ (both_first (leb (range_at s i).start r.start) (leb r.end (range_at s i).end) hit.0) in
    let high : r.end ≤ (range_at s i).end = leb-true _ _ (both_second (leb (range_at s i).start r.start) (leb r.end (range_at s i).end) hit.0) in
    is_union s r h (λ f u v. omega (arith, range_at_tally i s f, cov_in (range_at s i) f (omega arith) (omega arith)))

pub one_holds : (r : FrameRange) (s : List Slot) → r.start ≤ r.end → {q : Option ℕ} → q ≡ first_where (λ c. inside c r) s → is_some q ≡ true → true ≡ in_union (entries s) r
one_holds r s h {q} p e = sym (hit_union r s q h (subst (Hit (λ c. inside c r) s) (sym p) (first_hit (λ c. inside c r) s)) e)

-- every frame of sound slots is at or below the top
pub counted_all : (s : List Slot) → AllSound s → frames_in (range 0 top) (entries s) ≡ sum (entries s)
unfolding AllSound frames_in entries sum
counted_all [] a = refl
counted_all (unused ∷ s) a = counted_all s a
counted_all (used x ∷ s) a =
    let n : size (common (range 0 top) x) ≡ size x = omega (arith, a.0.low) in
    omega (arith, counted_all s a.1)
