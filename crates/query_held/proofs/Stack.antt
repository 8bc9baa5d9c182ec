-- Runs as a stack, the newest first, and what they say of the held frames below a mark.
use Prim.Native.Nat.{ℕ, ◌+◌, ◌-◌, ◌≤◌, ◌<◌}
use native.Mathlib.Omega.{arith}
use mathlib.Core.Path.{◌≡◌, refl, sym, ap, subst, ◌∙◌}
use mathlib.Core.Bool.{Bool, true, false}
use mathlib.Core.List.{List, [], ◌∷◌, ◌++◌, append_assoc, append-nil}
use lib.ListN.{length, length-append}
use lib.Dec.{leb, ltb, eqb}
use borrow.Author.Tests.{leb-true, leb-false, ltb-true, ltb-false, eqb-true, eqb-false}
use Rattle.std.specs.Prelude.{if◌then◌else◌}
use Rattle.memory_structs.specs.Range.{range}
use Rattle.memory_structs.specs.declared.range.FrameRange.{FrameRange}
use Rattle.memory_structs.proofs.Cover.{cov, cov_in, cov_below, cov_above, cov_cases}
use Rattle.model.specs.Lists.{Lists, times}
use Rattle.model.specs.Queries.{is_held, held_list}
use Rattle.model.proofs.Held.{held_list_parted}
use Rattle.model.proofs.Lawful.{AllSound}
use Rattle.model.proofs.Parted.{times_none, times_cons, Parted, parted_lower}
use Rattle.model.proofs.Trace.{bit}

-- runs that end below p, with a frame between one and the next
unfoldable pub Down : ℕ → List FrameRange → Type 0
Down p [] = Unit {0}
Down p (r ∷ rs) = (r.start ≤ r.end) × (r.end < p) × Down (r.start - 1) rs

down_none : (p : ℕ) (rs : List FrameRange) → Down p rs → (f : ℕ) → p ≤ f → times f rs ≡ 0
unfolding Down
down_none p [] d f h = times_none f
down_none p (r ∷ rs) d f h = omega (arith, times_cons f r rs, cov_above r f (omega (arith, d.1)), down_none (r.start - 1) rs d.2 f (omega (arith, d.0, d.1)))

down_more : (p q : ℕ) (rs : List FrameRange) → p ≤ q → Down p rs → Down q rs
unfolding Down
down_more p q [] h d = tt
down_more p q (r ∷ rs) h d = (d.0, omega (arith, d.1), d.2)

-- below p the runs have each held frame once, and no other
pub record Upto (H : ℕ → Bool) (p : ℕ) (rs : List FrameRange) : Type 0 where
  pub down : Down p rs
  pub exact : (f : ℕ) → f < p → times f rs ≡ bit (H f)

pub upto_none : (H : ℕ → Bool) → Upto H 0 []
unfolding Down
upto_none H = record { down = tt; exact = λ f h. absurd (omega arith) }

-- frames that touch the newest run belong to it
unfoldable pub join_run : ℕ → ℕ → List FrameRange → List FrameRange
join_run s e [] = range s (e - 1) ∷ []
join_run s e (r ∷ rs) = if eqb (r.end + 1) s then range r.start (e - 1) ∷ rs else range s (e - 1) ∷ r ∷ rs

unfoldable pub put_run : ℕ → ℕ → List FrameRange → List FrameRange
put_run s e rs = if leb e s then rs else join_run s e rs

module _ (H : ℕ → Bool) where
  -- frames that are not held
  upto_on : (p q : ℕ) (rs : List FrameRange) → Upto H p rs → p ≤ q → ((f : ℕ) → p ≤ f → f < q → H f ≡ false) → Upto H q rs
  upto_on p q rs u h none = record { down = down_more p q rs h u.down; exact = λ f k. go f k (ltb f p) refl }
    where
      go : (f : ℕ) → f < q → (b : Bool) → ltb f p ≡ b → times f rs ≡ bit (H f)
      go f k true e = u.exact f (ltb-true f p e)
      go f k false e = down_none p rs u.down f (ltb-false f p e) ∙ sym (ap bit (none f (ltb-false f p e) k))

  -- held frames from s up to e, not included
  module _ (s e : ℕ) (h : s < e) (some : (f : ℕ) → s ≤ f → f < e → H f ≡ true) where
    new_run : (rs : List FrameRange) → Upto H s rs → Down (s - 1) rs → Upto H e (range s (e - 1) ∷ rs)
    unfolding Down
    new_run rs u d = record { down = (omega arith, omega arith, d); exact = λ f k. go f k (ltb f s) refl }
      where
        go : (f : ℕ) → f < e → (b : Bool) → ltb f s ≡ b → times f (range s (e - 1) ∷ rs) ≡ bit (H f)
        go f k true t = omega (arith, times_cons f (range s (e - 1)) rs, cov_below (range s (e - 1)) f (ltb-true f s t), u.exact f (ltb-true f s t))
        go f k false t =
            let l : s ≤ f = ltb-false f s t in
            omega (arith, times_cons f (range s (e - 1)) rs, cov_in (range s (e - 1)) f l (omega arith), down_none s rs u.down f l, ap bit (some f l k))

    longer_run : (r : FrameRange) (rs : List FrameRange) → Upto H s (r ∷ rs) → r.end + 1 ≡ s → Upto H e (range r.start (e - 1) ∷ rs)
    unfolding Down
    longer_run r rs u t = record { down = (omega (arith, u.down.0), omega arith, u.down.2); exact = λ f k. go f k (ltb f s) refl }
      where
        x : FrameRange
        x = range r.start (e - 1)

        go : (f : ℕ) → f < e → (b : Bool) → ltb f s ≡ b → times f (x ∷ rs) ≡ bit (H f)
        go f k true q =
            let l : f < s = ltb-true f s q in
            omega (
              arith,
              times_cons f x rs,
              times_cons f r rs,
              u.exact f l,
              cov_cases r f {G = cov x f ≡ cov r f} (λ i j w. omega (arith, w, cov_in x f i (omega arith))) (λ i w. omega (arith, w, cov_below x f i)) (λ i w. absurd (omega arith)),
            )
        go f k false q =
            let l : s ≤ f = ltb-false f s q in
            omega (arith, times_cons f x rs, cov_in x f (omega (arith, u.down.0)) (omega arith), down_none (r.start - 1) rs u.down.2 f (omega (arith, u.down.0)), ap bit (some f l k))

    upto_join : (rs : List FrameRange) → Upto H s rs → Upto H e (join_run s e rs)
    unfolding join_run Down
    upto_join [] u = new_run [] u tt
    upto_join (r ∷ rs) u = go (eqb (r.end + 1) s) refl
      where
        go : (b : Bool) → eqb (r.end + 1) s ≡ b → Upto H e (if b then range r.start (e - 1) ∷ rs else range s (e - 1) ∷ r ∷ rs)
        go true t = longer_run r rs u (eqb-true _ _ t)
        go false t =
            let k : r.end + 1 ≡ s → ⊥ = eqb-false _ _ t in
            new_run (r ∷ rs) u (u.down.0, omega (arith, k, u.down.1), u.down.2)

  -- of the frames from p up to q those from s up to e are held
  pub upto_put : (p q s e : ℕ) (rs : List FrameRange) → Upto H p rs → p ≤ q → p ≤ s → e ≤ q → ((f : ℕ) → s ≤ f → f < e → H f ≡ true) →
      ((f : ℕ) → p ≤ f → f < q → f < s → H f ≡ false) → ((f : ℕ) → p ≤ f → f < q → e ≤ f → H f ≡ false) → Upto H q (put_run s e rs)
  unfolding put_run
  upto_put p q s e rs u h i j some under over = go (leb e s) refl
    where
      go : (b : Bool) → leb e s ≡ b → Upto H q (if b then rs else join_run s e rs)
      go true t = upto_on p q rs u h (λ f k m. apart f k m (ltb f s) refl)
        where
          apart : (f : ℕ) → p ≤ f → f < q → (b : Bool) → ltb f s ≡ b → H f ≡ false
          apart f k m true w = under f k m (ltb-true f s w)
          apart f k m false w = over f k m (omega (arith, leb-true e s t, ltb-false f s w))
      go false t =
          let m : s < e = leb-false e s t in
          upto_on e q (join_run s e rs) (upto_join s e m some rs (upto_on p s rs u i (λ f k l. under f k (omega arith) l))) j (λ f k l. over f (omega arith) l k)

-- ---- the whole list

-- the oldest first
unfoldable pub up : List FrameRange → List FrameRange
up [] = []
up (r ∷ rs) = up rs ++ r ∷ []

pub length_up : (rs : List FrameRange) → length (up rs) ≡ length rs
unfolding up
length_up [] = refl
length_up (r ∷ rs) = omega (arith, length-append (up rs) (r ∷ []), length_up rs)

times_append : (f : ℕ) (rs qs : List FrameRange) → times f (rs ++ qs) ≡ times f rs + times f qs
unfolding times
times_append f [] qs = omega arith
times_append f (r ∷ rs) qs = omega (arith, times_append f rs qs)

times_up : (f : ℕ) (rs : List FrameRange) → times f (up rs) ≡ times f rs
unfolding up
times_up f [] = refl
times_up f (r ∷ rs) = omega (arith, times_append f (up rs) (r ∷ []), times_cons f r [], times_cons f r rs, times_up f rs, times_none f)

-- and so with a frame between one and the next
up_parted : (p q : ℕ) (rs qs : List FrameRange) → Down p rs → Parted q qs → p ≤ q - 1 → Parted 0 (up rs ++ qs)
unfolding Down Parted up
up_parted p q [] qs d e h = parted_lower q 0 qs (omega arith) e
up_parted p q (r ∷ rs) qs d e h =
    subst (Parted 0) (sym (append_assoc (up rs) (r ∷ []) qs))
    (up_parted (r.start - 1) r.start rs (r ∷ qs) d.2 (omega arith, d.0, parted_lower q (r.end + 2) qs (omega (arith, d.1)) e) (omega arith))

-- no frame from p on is held: the runs are the held list
pub upto_held : (l : Lists) → AllSound l.general_regions → (p : ℕ) (rs : List FrameRange) → Upto (is_held l) p rs → ((f : ℕ) → p ≤ f → is_held l f ≡ false) → up rs ≡ held_list l
unfolding Parted
upto_held l a p rs u none =
    held_list_parted l a (up rs) (subst (Parted 0) (append-nil (up rs)) (up_parted p (p + 1) rs [] u.down tt (omega arith))) (λ f. times_up f rs ∙ go f (ltb f p) refl)
  where
    go : (f : ℕ) (b : Bool) → ltb f p ≡ b → times f rs ≡ bit (is_held l f)
    go f true e = u.exact f (ltb-true f p e)
    go f false e = down_none p rs u.down f (ltb-false f p e) ∙ sym (ap bit (none f (ltb-false f p e)))
