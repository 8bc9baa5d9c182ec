-- Three words each: the value at an index, how many there are, and a walk over them (`run` reads its calls so).
use Prim.Native.Nat.{ℕ, zero, suc, ◌+◌, ◌/◌, ◌≤◌, ◌<◌}
use native.Mathlib.Omega.{arith}
use mathlib.Core.Path.{◌≡◌, refl}
use mathlib.Core.List.{List, [], ◌∷◌}
use lib.ListN.{length, get_or, drop}
use Rattle.std.specs.Simd.{first_chunks}
use Rattle.boot_areas.specs.Areas.{triples}

-- three words each: the area at i, and how many there are
module _ {A : Type 0} (f : ℕ → ℕ → ℕ → A) where
  pub triples_count : (ws : List ℕ) → length (triples f ws) ≡ length ws / 3
  unfolding triples
  triples_count [] = refl
  triples_count (x ∷ []) = refl
  triples_count (x ∷ y ∷ []) = refl
  triples_count (x ∷ y ∷ k ∷ ws) = omega (arith, triples_count ws)

  pub chunk_at : (ws : List ℕ) (n i : ℕ) (d : A) (e : List ℕ) → i < n → n ≤ length ws / 3 →
      get_or (triples f ws) i d ≡ f (get_or (get_or (first_chunks 3 n ws) i e) 0 0) (get_or (get_or (first_chunks 3 n ws) i e) 1 0) (get_or (get_or (first_chunks 3 n ws) i e) 2 0)
  unfolding triples
  chunk_at ws zero i d e h l = absurd (omega arith)
  chunk_at [] (suc n) i d e h l = absurd (omega arith)
  chunk_at (x ∷ []) (suc n) i d e h l = absurd (omega arith)
  chunk_at (x ∷ y ∷ []) (suc n) i d e h l = absurd (omega arith)
  chunk_at (x ∷ y ∷ k ∷ ws) (suc n) zero d e h l = refl
  chunk_at (x ∷ y ∷ k ∷ ws) (suc n) (suc i) d e h l = chunk_at ws n i d e (omega arith) (omega arith)

-- the three words from i on, and those after them
module _ {A : Type 0} (f : ℕ → ℕ → ℕ → A) where
  pub next_three : (ws : List ℕ) (i : ℕ) → i + 3 ≤ length ws →
      triples f (drop i ws) ≡ f (get_or ws i 0) (get_or ws (suc i) 0) (get_or ws (suc (suc i)) 0) ∷ triples f (drop (suc (suc (suc i))) ws)
  unfolding triples
  next_three [] i h = absurd (omega arith)
  next_three (x ∷ []) zero h = absurd (omega arith)
  next_three (x ∷ y ∷ []) zero h = absurd (omega arith)
  next_three (x ∷ y ∷ k ∷ ws) zero h = refl
  next_three (x ∷ ws) (suc i) h = next_three ws i (omega arith)

  -- fewer than three words are nothing
  pub none_left : (ws : List ℕ) (i : ℕ) → length ws < i + 3 → triples f (drop i ws) ≡ []
  unfolding triples
  none_left [] zero h = refl
  none_left [] (suc i) h = refl
  none_left (x ∷ []) zero h = refl
  none_left (x ∷ y ∷ []) zero h = refl
  none_left (x ∷ y ∷ k ∷ ws) zero h = absurd (omega arith)
  none_left (x ∷ ws) (suc i) h = none_left ws i (omega arith)
