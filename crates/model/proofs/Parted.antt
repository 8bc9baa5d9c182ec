-- Ranges that ascend with a frame between one and the next: they are known by the frames that they cover. `runs_from` makes such.
use Prim.Native.Nat.{ℕ, zero, suc, ◌+◌, ◌≤◌, ◌<◌}
use native.Mathlib.Omega.{arith}
use mathlib.Core.Path.{◌≡◌, refl, sym, ap, ◌∙◌}
use mathlib.Core.Bool.{Bool, true, false}
use mathlib.Core.List.{List, [], ◌∷◌}
use lib.Dec.{ltb, eqb}
use borrow.Author.Tests.{ltb-true, ltb-false, eqb-true, eqb-false}
use Rattle.std.specs.Prelude.{if◌then◌else◌}
use Rattle.memory_structs.specs.Range.{range}
use Rattle.memory_structs.specs.declared.range.FrameRange.{FrameRange}
use Rattle.memory_structs.proofs.Bools.{if_cases}
use Rattle.memory_structs.proofs.Bounds.{same_ends}
use Rattle.memory_structs.proofs.Cover.{cov, cov_in, cov_below, cov_above, cov_cut, covers_bit}
use Rattle.model.specs.Lists.{times}
use Rattle.model.specs.Queries.{with_frame, runs_from}
use Rattle.model.proofs.Trace.{bit}

pub times_none : (x : ℕ) → times x [] ≡ 0
unfolding times
times_none x = refl

pub times_cons : (x : ℕ) (r : FrameRange) (rs : List FrameRange) → times x (r ∷ rs) ≡ cov r x + times x rs
unfolding times
times_cons x r rs = ap (λ (n : ℕ). n + times x rs) (covers_bit r x)

-- from p on
unfoldable pub Parted : ℕ → List FrameRange → Type 0
Parted p [] = Unit {0}
Parted p (r ∷ rs) = (p ≤ r.start) × (r.start ≤ r.end) × Parted (r.end + 2) rs

pub parted_lower : (p q : ℕ) (rs : List FrameRange) → q ≤ p → Parted p rs → Parted q rs
unfolding Parted
parted_lower p q [] h d = tt
parted_lower p q (r ∷ rs) h d = (omega (arith, d.0), d.1, d.2)

pub parted_under : (p : ℕ) (rs : List FrameRange) → Parted p rs → (x : ℕ) → x < p → times x rs ≡ 0
unfolding Parted
parted_under p [] d x h = times_none x
parted_under p (r ∷ rs) d x h = omega (arith, d.0, d.1, times_cons x r rs, cov_below r x (omega (arith, d.0)), parted_under (r.end + 2) rs d.2 x (omega (arith, d.0, d.1)))

-- ---- the same frames, the same ranges

module _ (p q : ℕ) (r s : FrameRange) (rs ss : List FrameRange) (d : Parted p (r ∷ rs)) (e : Parted q (s ∷ ss)) (same : (x : ℕ) → times x (r ∷ rs) ≡ times x (s ∷ ss)) where
  starts_low : s.start ≤ r.start
  unfolding Parted
  starts_low = go (ltb r.start s.start) refl
    where
      go : (b : Bool) → ltb r.start s.start ≡ b → s.start ≤ r.start
      go true t =
          let h : r.start < s.start = ltb-true _ _ t in
          absurd (omega (arith, same r.start, times_cons r.start r rs, times_cons r.start s ss, cov_in r r.start (omega arith) d.1, cov_below s r.start h, parted_under (s.end + 2) ss e.2 r.start (omega (arith, e.1))))
      go false t = ltb-false _ _ t

  ends_high : r.start ≡ s.start → s.end ≤ r.end
  unfolding Parted
  ends_high k = go (ltb r.end s.end) refl
    where
      go : (b : Bool) → ltb r.end s.end ≡ b → s.end ≤ r.end
      go true t =
          let h : r.end < s.end = ltb-true _ _ t in
          absurd (omega (arith, same (r.end + 1), times_cons (r.end + 1) r rs, times_cons (r.end + 1) s ss, cov_above r (r.end + 1) (omega arith), cov_in s (r.end + 1) (omega (arith, d.1, k)) (omega arith), parted_under (r.end + 2) rs d.2 (r.end + 1) (omega arith)))
      go false t = ltb-false _ _ t

  rest_same : r ≡ s → (x : ℕ) → times x rs ≡ times x ss
  rest_same k x = omega (arith, same x, times_cons x r rs, times_cons x s ss, ap (λ (y : FrameRange). cov y x) k)

pub same_parted : (p q : ℕ) (rs ss : List FrameRange) → Parted p rs → Parted q ss → ((x : ℕ) → times x rs ≡ times x ss) → rs ≡ ss
unfolding Parted
same_parted p q [] [] d e same = refl
same_parted p q [] (s ∷ ss) d e same =
    absurd (omega (arith, same s.start, times_none s.start, times_cons s.start s ss, cov_in s s.start (omega arith) e.1))
same_parted p q (r ∷ rs) [] d e same =
    absurd (omega (arith, same r.start, times_none r.start, times_cons r.start r rs, cov_in r r.start (omega arith) d.1))
same_parted p q (r ∷ rs) (s ∷ ss) d e same =
    let back : (x : ℕ) → times x (s ∷ ss) ≡ times x (r ∷ rs) = λ x. sym (same x) in
    let first : r.start ≡ s.start = omega (arith, starts_low p q r s rs ss d e same, starts_low q p s r ss rs e d back) in
    let last : r.end ≡ s.end = omega (arith, ends_high p q r s rs ss d e same first, ends_high q p s r ss rs e d back (sym first)) in
    let head : r ≡ s = same_ends first last in
    let tail : rs ≡ ss = same_parted (r.end + 2) (s.end + 2) rs ss d.2 e.2 (rest_same p q r s rs ss d e same head) in
    (λ i. head i ∷ tail i)

-- ---- frame by frame

module _ (f : ℕ) where
  frame_parted : (rs : List FrameRange) → Parted (f + 1) rs → Parted f (with_frame f rs)
  unfolding Parted with_frame
  frame_parted [] d = (omega arith, omega arith, tt)
  frame_parted (r ∷ rs) d =
      if_cases (Parted f) (eqb r.start (f + 1))
      (λ e. (omega arith, omega (arith, d.0, d.1), d.2))
      (λ e. let apart : r.start ≡ f + 1 → ⊥ = eqb-false _ _ e in (omega arith, omega arith, (omega (arith, d.0), d.1, d.2)))

  frame_times : (rs : List FrameRange) → Parted (f + 1) rs → (x : ℕ) → times x (with_frame f rs) ≡ cov (range f f) x + times x rs
  unfolding Parted with_frame
  frame_times [] d x = times_cons x (range f f) []
  frame_times (r ∷ rs) d x =
      if_cases (λ (qs : List FrameRange). times x qs ≡ cov (range f f) x + times x (r ∷ rs)) (eqb r.start (f + 1))
      (λ e. omega (arith, times_cons x (range f r.end) rs, times_cons x r rs, cov_cut f f r.start r.end x (eqb-true _ _ e) (omega (arith, d.0)) (omega (arith, d.0, d.1))))
      (λ e. times_cons x (range f f) (r ∷ rs))

module _ (p : ℕ → Bool) where
  pub runs_parted : (f n : ℕ) → Parted f (runs_from p f n)
  unfolding Parted runs_from
  runs_parted f zero = tt
  runs_parted f (suc n) =
      if_cases (Parted f) (p f)
      (λ e. frame_parted f (runs_from p (f + 1) n) (runs_parted (f + 1) n))
      (λ e. parted_lower (f + 1) f (runs_from p (f + 1) n) (omega arith) (runs_parted (f + 1) n))

  -- from f on, no frame after these is in the runs
  runs_over : (f n x : ℕ) → f + n ≤ x → times x (runs_from p f n) ≡ 0
  unfolding runs_from
  runs_over f zero x h = times_none x
  runs_over f (suc n) x h =
      if_cases (λ (rs : List FrameRange). times x rs ≡ 0) (p f)
      (λ e. omega (arith, frame_times f (runs_from p (f + 1) n) (runs_parted (f + 1) n) x, cov_above (range f f) x (omega arith), runs_over (f + 1) n x (omega arith)))
      (λ e. runs_over (f + 1) n x (omega arith))

  -- and each of these is in one run, where it passes the test, or in none
  here : (f n x : ℕ) → x ≡ f → times x (if p f then with_frame f (runs_from p (f + 1) n) else runs_from p (f + 1) n) ≡ bit (p x)
  here f n x e =
      let none : times x (runs_from p (f + 1) n) ≡ 0 = parted_under (f + 1) (runs_from p (f + 1) n) (runs_parted (f + 1) n) x (omega arith) in
      if_cases (λ (rs : List FrameRange). times x rs ≡ bit (p x)) (p f)
      (λ y. omega (arith, frame_times f (runs_from p (f + 1) n) (runs_parted (f + 1) n) x, cov_in (range f f) x (omega arith) (omega arith), none, ap bit (ap p e ∙ y)))
      (λ y. none ∙ sym (ap bit (ap p e ∙ y)))

  above : (f n x : ℕ) → f < x → times x (runs_from p (f + 1) n) ≡ bit (p x) → times x (if p f then with_frame f (runs_from p (f + 1) n) else runs_from p (f + 1) n) ≡ bit (p x)
  above f n x h rest =
      if_cases (λ (rs : List FrameRange). times x rs ≡ bit (p x)) (p f)
      (λ y. omega (arith, frame_times f (runs_from p (f + 1) n) (runs_parted (f + 1) n) x, cov_above (range f f) x (omega arith), rest))
      (λ y. rest)

  runs_times : (f n x : ℕ) → f ≤ x → x < f + n → times x (runs_from p f n) ≡ bit (p x)
  unfolding runs_from
  runs_times f zero x h k = absurd (omega arith)
  runs_times f (suc n) x h k = go (eqb x f) refl (λ m. runs_times (f + 1) n x (omega arith) (omega arith))
    where
      go : (b : Bool) → eqb x f ≡ b → (f < x → times x (runs_from p (f + 1) n) ≡ bit (p x)) → times x (if p f then with_frame f (runs_from p (f + 1) n) else runs_from p (f + 1) n) ≡ bit (p x)
      go true t rest = here f n x (eqb-true _ _ t)
      go false t rest =
          let e : x ≡ f → ⊥ = eqb-false _ _ t in
          let m : f < x = omega arith in
          above f n x m (rest m)

  -- enough frames: no frame from n on passes the test
  module _ (n : ℕ) (enough : (x : ℕ) → n ≤ x → p x ≡ false) where
    pub runs_exact : (x : ℕ) → times x (runs_from p 0 n) ≡ bit (p x)
    runs_exact x = go (ltb x n) refl
      where
        go : (b : Bool) → ltb x n ≡ b → times x (runs_from p 0 n) ≡ bit (p x)
        go true t = let h : x < n = ltb-true _ _ t in runs_times 0 n x (omega arith) (omega arith)
        go false t = let h : n ≤ x = ltb-false _ _ t in runs_over 0 n x (omega arith) ∙ sym (ap bit (enough x h))

    -- ranges with a frame between them that have each frame which passes the test once, and no other, are the runs
    pub runs_alone : (q : ℕ) (rs : List FrameRange) → Parted q rs → ((x : ℕ) → times x rs ≡ bit (p x)) → rs ≡ runs_from p 0 n
    runs_alone q rs d exact = same_parted q 0 rs (runs_from p 0 n) d (runs_parted 0 n) (λ x. exact x ∙ sym (runs_exact x))

-- any number of frames that is enough gives the same runs
pub runs_fewer : (p : ℕ → Bool) (n : ℕ) → ((x : ℕ) → n ≤ x → p x ≡ false) → (m : ℕ) → n ≤ m → runs_from p 0 m ≡ runs_from p 0 n
runs_fewer p n enough m h =
    runs_alone p n enough 0 (runs_from p 0 m) (runs_parted p 0 m) (runs_exact p m (λ x k. enough x (omega arith)))

-- runs of the same frames
pub runs_same : (p q : ℕ → Bool) → ((x : ℕ) → p x ≡ q x) → (f n : ℕ) → runs_from p f n ≡ runs_from q f n
unfolding runs_from
runs_same p q e f zero = refl
runs_same p q e f (suc n) = (λ i. if e f i then with_frame f (runs_same p q e (f + 1) n i) else runs_same p q e (f + 1) n i)
