-- The held list has 1,024 runs at most: each begins where a general region starts or just above a free chunk. So 2,048 words are enough.
use Prim.Native.Nat.{ℕ, zero, suc, ◌+◌, ◌*◌, ◌≤◌, ◌<◌}
use native.Mathlib.Omega.{arith}
use mathlib.Core.Path.{◌≡◌, refl, ap}
use mathlib.Core.Bool.{Bool, true, false, not, ◌&&◌}
use mathlib.Core.List.{List, [], ◌∷◌, ◌++◌}
use lib.ListN.{length, drop, length-append, length-drop}
use lib.Dec.{eqb}
use borrow.Author.Tests.{eqb-true, eqb-false, eq-eqb}
use Rattle.std.specs.Prelude.{if◌then◌else◌}
use Rattle.memory_structs.specs.declared.range.FrameRange.{FrameRange}
use Rattle.memory_structs.proofs.Cover.{cov, cov_in, cov_below, cov_above, cov_cases, covers_between}
use Rattle.model.specs.Lists.{Lists, Slot, unused, used, entries, covered_by, bound, times}
use Rattle.model.specs.Rules.{Each, rules}
use Rattle.model.specs.Queries.{is_held, held_list, Run, MaximalRuns, pairs, written}
use Rattle.model.proofs.Cover.{tally}
use Rattle.model.proofs.Held.{held_list_is}
use Rattle.model.proofs.Lawful.{AllSound, Lawful}
use Rattle.model.proofs.Parted.{times_cons}
use Rattle.model.proofs.Plainly.{covered_tally, uncovered_tally}
use Rattle.model.proofs.Ruled.{rules_lawful}
use Rattle.model.proofs.Trace.{bit}

-- how often a number stands in a list
unfoldable pub occurs : ℕ → List ℕ → ℕ
occurs f [] = 0
occurs f (x ∷ xs) = bit (eqb x f) + occurs f xs

-- how many of the ranges pass the test
how_many : (FrameRange → Bool) → List FrameRange → ℕ
how_many p [] = 0
how_many p (r ∷ rs) = bit (p r) + how_many p rs

abbrev starts : ℕ → FrameRange → Bool
starts f r = eqb r.start f

abbrev ends : ℕ → FrameRange → Bool
ends f r = eqb (r.end + 1) f

-- from a frame to the next: what no longer covers it has ended, and what newly does has started
turn_one : (r : FrameRange) (f : ℕ) → r.start ≤ r.end → cov r (suc f) + bit (ends (suc f) r) ≡ cov r f + bit (starts (suc f) r)
turn_one r f h = go (ends (suc f) r) (starts (suc f) r) refl refl
  where
    go : (a b : Bool) → ends (suc f) r ≡ a → starts (suc f) r ≡ b → cov r (suc f) + bit a ≡ cov r f + bit b
    go true true p q = absurd (omega (arith, eqb-true))
    go true false p q = omega (arith, cov_above r (suc f) (omega (arith, eqb-true)), cov_in r f (omega (arith, eqb-true)) (omega (arith, eqb-true)))
    go false true p q = omega (arith, cov_below r f (omega (arith, eqb-true)), cov_in r (suc f) (omega (arith, eqb-true)) (omega (arith, eqb-true)))
    go false false p q =
        let u : r.end + 1 ≡ suc f → ⊥ = eqb-false _ _ p in
        let v : r.start ≡ suc f → ⊥ = eqb-false _ _ q in
        cov_cases r f
        (λ x y w. omega (arith, cov_in r (suc f) (omega arith) (omega arith)))
        (λ x w. omega (arith, cov_below r (suc f) (omega arith)))
        (λ x w. omega (arith, cov_above r (suc f) (omega arith)))

turn : (f : ℕ) (s : List Slot) → AllSound s → tally (suc f) s + how_many (ends (suc f)) (entries s) ≡ tally f s + how_many (starts (suc f)) (entries s)
unfolding tally how_many entries AllSound
turn f [] a = refl
turn f (unused ∷ s) a = turn f s a
turn f (used r ∷ s) a = omega (arith, turn_one r f a.0.filled, turn f s a.1)

-- a range covers the frame that it starts at, and at 0 no other does
start_one : (r : FrameRange) (f : ℕ) → r.start ≤ r.end → bit (starts f r) ≤ cov r f
start_one r f h = go (starts f r) refl
  where
    go : (b : Bool) → starts f r ≡ b → bit b ≤ cov r f
    go true e = omega (arith, cov_in r f (omega (arith, eqb-true)) (omega (arith, eqb-true)))
    go false e = omega arith

zero_one : (r : FrameRange) → cov r 0 ≤ bit (starts 0 r)
zero_one r = go (starts 0 r) refl
  where
    go : (b : Bool) → starts 0 r ≡ b → cov r 0 ≤ bit b
    go true e = cov_cases r 0 (λ p q w. omega arith) (λ p w. omega arith) (λ p w. omega arith)
    go false e =
        let v : r.start ≡ 0 → ⊥ = eqb-false _ _ e in
        omega (arith, cov_below r 0 (omega arith))

zero_starts : (s : List Slot) → tally 0 s ≤ how_many (starts 0) (entries s)
unfolding tally how_many entries
zero_starts [] = omega arith
zero_starts (unused ∷ s) = zero_starts s
zero_starts (used r ∷ s) = omega (arith, zero_one r, zero_starts s)

-- the places of ranges

places : (FrameRange → ℕ) → List FrameRange → List ℕ
places p [] = []
places p (r ∷ rs) = p r ∷ places p rs

places_length : (p : FrameRange → ℕ) (rs : List FrameRange) → length (places p rs) ≡ length rs
unfolding places
places_length p [] = refl
places_length p (r ∷ rs) = ap suc (places_length p rs)

places_occur : (f : ℕ) (p : FrameRange → ℕ) (rs : List FrameRange) → occurs f (places p rs) ≡ how_many (λ r. eqb (p r) f) rs
unfolding occurs places how_many
places_occur f p [] = refl
places_occur f p (r ∷ rs) = ap (λ n. bit (eqb (p r) f) + n) (places_occur f p rs)

occurs_append : (f : ℕ) (xs ys : List ℕ) → occurs f (xs ++ ys) ≡ occurs f xs + occurs f ys
unfolding occurs
occurs_append f [] ys = omega arith
occurs_append f (x ∷ xs) ys = omega (arith, occurs_append f xs ys)

bound_low : (sorted : Bool) → bound sorted ≤ 512
unfolding bound
bound_low true = omega arith
bound_low false = omega arith

-- a list that has each number no more often is no longer

without : ℕ → List ℕ → List ℕ
without x [] = []
without x (y ∷ ys) = if eqb y x then ys else y ∷ without x ys

record Removed (x : ℕ) (ys zs : List ℕ) : Type 0 where
  shorter : length ys ≡ suc (length zs)
  fewer : (f : ℕ) → occurs f ys ≡ bit (eqb x f) + occurs f zs

removed : (x : ℕ) (ys : List ℕ) → 0 < occurs x ys → Removed x ys (without x ys)
unfolding occurs without
removed x [] h = absurd (omega arith)
removed x (y ∷ ys) h = go (eqb y x) refl h (removed x ys)
  where
    go : (b : Bool) → eqb y x ≡ b → 0 < bit b + occurs x ys → (0 < occurs x ys → Removed x ys (without x ys)) →
        Removed x (y ∷ ys) (if b then ys else y ∷ without x ys)
    go true e h ih = record { shorter = refl; fewer = λ f. ap (λ (z : ℕ). bit (eqb z f) + occurs f ys) (eqb-true _ _ e) }
    go false e h ih = let m = ih (omega arith) in record { shorter = ap suc m.shorter; fewer = λ f. omega (arith, m.fewer f) }

no_longer : (xs ys : List ℕ) → ((f : ℕ) → occurs f xs ≤ occurs f ys) → length xs ≤ length ys
unfolding occurs
no_longer [] ys h = omega arith
no_longer (x ∷ xs) ys h =
    let m = removed x ys (omega (arith, h x, ap bit (eq-eqb x x refl))) in
    omega (arith, m.shorter, no_longer xs (without x ys) (λ f. omega (arith, h f, m.fewer f)))

first_held : {l : Lists} {r : FrameRange} → Run l r → (f : ℕ) → r.start ≡ f → is_held l f ≡ true
first_held {l} {r} u f e = u.held f (covers_between r f (omega (arith, e)) (omega (arith, e, u.filled)))

-- runs start no more often at a frame than it is held
first_once : (l : Lists) (f : ℕ) (rs : List FrameRange) → Each (Run l) rs → how_many (starts f) rs ≤ times f rs
unfolding how_many Each
first_once l f [] u = omega arith
first_once l f (r ∷ rs) u = omega (arith, times_cons f r rs, start_one r f u.0.filled, first_once l f rs u.1)

module _ {l : Lists} (a : Lawful l) where
  -- a general frame is free or held
  pub held_bit : (f : ℕ) → bit (is_held l f) + tally f l.general_free ≡ tally f l.general_regions
  unfolding is_held
  held_bit f = go (covered_by f (entries l.general_regions)) (covered_by f (entries l.general_free)) refl refl
    where
      go : (x y : Bool) → covered_by f (entries l.general_regions) ≡ x → covered_by f (entries l.general_free) ≡ y → bit (x && not y) + tally f l.general_free ≡ tally f l.general_regions
      go true true p q = omega (arith, a.apart f, a.general f, covered_tally f l.general_regions p, covered_tally f l.general_free q)
      go true false p q = omega (arith, a.apart f, covered_tally f l.general_regions p, uncovered_tally f l.general_free q)
      go false y p q = omega (arith, a.general f, uncovered_tally f l.general_regions p)

  -- a region starts at the frame, or a free chunk ends just below it
  abbrev AtEdge : ℕ → Type 0
  AtEdge f = 1 ≤ how_many (starts f) (entries l.general_regions) + how_many (ends f) (entries l.general_free)

  -- and does where a run begins
  edge : {r : FrameRange} → Run l r → (f : ℕ) → r.start ≡ f → AtEdge f
  edge {r} u zero e = omega (arith, ap bit (first_held u zero e), held_bit 0, zero_starts l.general_regions)
  edge {r} u (suc f) e =
      omega (
        arith,
        ap bit (first_held u (suc f) e),
        ap bit (u.below f (omega (arith, e))),
        held_bit f,
        held_bit (suc f),
        turn f l.general_regions a.shape_gr.sound,
        turn f l.general_free a.shape_gf.sound,
      )

  -- so does a list of runs, at most once
  edges : (rs : List FrameRange) → Each (Run l) rs → (f : ℕ) → 0 < how_many (starts f) rs → AtEdge f
  unfolding how_many Each
  edges [] u f h = absurd (omega arith)
  edges (r ∷ rs) u f h = go (eqb r.start f) refl h (edges rs u.1 f)
    where
      go : (b : Bool) → eqb r.start f ≡ b → 0 < bit b + how_many (starts f) rs → (0 < how_many (starts f) rs → AtEdge f) → AtEdge f
      go true e h ih = edge u.0 f (eqb-true _ _ e)
      go false e h ih = ih (omega arith)

  abbrev edge_places : List ℕ
  edge_places = places (λ r. r.start) (entries l.general_regions) ++ places (λ r. r.end + 1) (entries l.general_free)

  runs_at_edges : (rs : List FrameRange) → MaximalRuns l rs → (f : ℕ) → occurs f (places (λ r. r.start) rs) ≤ occurs f edge_places
  runs_at_edges rs h f =
      rw (places_occur f (λ r. r.start) rs, occurs_append f (places (λ r. r.start) (entries l.general_regions)) (places (λ r. r.end + 1) (entries l.general_free)), places_occur f (λ r. r.start) (entries l.general_regions), places_occur f (λ r. r.end + 1) (entries l.general_free))
      (go (how_many (starts f) rs) (edges rs h.runs f) (omega (arith, first_once l f rs h.runs, h.once f, once (is_held l f))))
    where
      once : (b : Bool) → bit b ≤ 1
      once true = omega arith
      once false = omega arith

      go : (n : ℕ) → (0 < n → AtEdge f) → n ≤ 1 → n ≤ how_many (starts f) (entries l.general_regions) + how_many (ends f) (entries l.general_free)
      go zero h k = omega arith
      go (suc n) h k = omega (arith, h (omega arith))

few : (l : Lists) → Lawful l → MaximalRuns l (held_list l) → length (held_list l) ≤ 1024
few l a h =
    omega (
      arith,
      a.few_gr,
      a.few_gf,
      bound_low l.sorted,
      no_longer (places (λ r. r.start) (held_list l)) (edge_places a) (runs_at_edges a (held_list l) h),
      length-append (places (λ r. r.start) (entries l.general_regions)) (places (λ r. r.end + 1) (entries l.general_free)),
      places_length (λ r. r.start) (held_list l),
      places_length (λ r. r.start) (entries l.general_regions),
      places_length (λ r. r.end + 1) (entries l.general_free),
    )

-- "held-list buffer below 2048": its pairs take 2,048 words at most
pub few_held : (l : Lists) → rules l ≡ true → length (held_list l) ≤ 1024
few_held l r = few l (rules_lawful l r) (held_list_is l r)

pub pairs_length : (rs : List FrameRange) → length (pairs rs) ≡ 2 * length rs
unfolding pairs
pairs_length [] = refl
pairs_length (r ∷ rs) = omega (arith, pairs_length rs)

-- and the buffer keeps its length
pub written_length : (l : Lists) → rules l ≡ true → (buffer : List ℕ) → 2048 ≤ length buffer → length (written (held_list l) buffer) ≡ length buffer
unfolding written
written_length l r buffer n =
    omega (arith, length-append (pairs (held_list l)) (drop (length (pairs (held_list l))) buffer), length-drop (length (pairs (held_list l))) buffer, pairs_length (held_list l), few_held l r)
