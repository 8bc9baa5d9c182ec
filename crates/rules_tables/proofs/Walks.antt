-- Two tidy tables, walked side by side: what is left to compare says the same of the whole as at the start.
use Prim.Native.Nat.{ℕ, zero, suc, ◌+◌, ◌-◌, ◌*◌, ◌≤◌, ◌<◌, max}
use native.Mathlib.Omega.{arith}
use native.Mathlib.Numerals.{add-one}
use mathlib.Core.Path.{◌≡◌, refl, sym, ap, subst}
use mathlib.Core.Bool.{Bool, true, false}
use mathlib.Core.List.{List, [], ◌∷◌}
use lib.ListN.{drop}
use Rattle.memory_structs.specs.declared.range.FrameRange.{FrameRange}
use Rattle.memory_structs.proofs.Cover.{cov_in, cov_above, cov_cases}
use Rattle.model.specs.Lists.{Slot, used, entries, all_of, in_union}
use Rattle.model.specs.Rules.{tidy}
use Rattle.model.specs.Store.{table_slots}
use Rattle.model.proofs.Cover.{tally}
use Rattle.model.proofs.Ruled.{tidy_is, inside_is, is_inside}
use Rattle.tables.proofs.Search.{pair_at, slots_cons}
use Rattle.tables.proofs.Spaced.{Spaced, tidy_spaced, none_under, spaced_lower}
use Rattle.tables.proofs.Sums.{tidy_pair}
use Rattle.rules_tables.proofs.Spacing.{spaced_pair}

-- the pairs from i on
abbrev pub rest : ℕ → List ℕ → ℕ → List Slot
rest n ws i = table_slots (n - i) (drop (2 * i) ws)

pub rest_all : (n : ℕ) (ws : List ℕ) → table_slots n ws ≡ rest n ws 0
rest_all n ws = let e : n - 0 ≡ n = omega arith in rw e

pub rest_none : (n : ℕ) (ws : List ℕ) (i : ℕ) → n ≤ i → rest n ws i ≡ []
unfolding table_slots
rest_none n ws i h = let e : n - i ≡ 0 = omega arith in rw e

-- no frame below the first range
pub under_first : (f : ℕ) (r : FrameRange) (s : List Slot) → Spaced 0 (used r ∷ s) → f < r.start → tally f (used r ∷ s) ≡ 0
unfolding Spaced
under_first f r s a h = none_under f r.start (used r ∷ s) (omega arith, a.1, a.2) h

-- ---- chunks inside the union of regions

-- each frame of s, from the given one on, is in t
unfoldable pub Within : ℕ → List Slot → List Slot → Type 0
Within from s t = (f : ℕ) → from ≤ f → 0 < tally f s → 0 < tally f t

within_none : (from : ℕ) (t : List Slot) → Within from [] t
unfolding Within tally
within_none from t f p q = absurd (omega arith)

module _ (from : ℕ) (x : FrameRange) (s : List Slot) (y : FrameRange) (u : List Slot) (a : Spaced 0 (used x ∷ s)) where
  -- a region that ends below the chunk's first frame left
  within_less : Within from (used x ∷ s) u → Within from (used x ∷ s) (used y ∷ u)
  unfolding Within tally
  within_less h f p q = omega (arith, h f p q)

  skip : y.end < max from x.start → Within from (used x ∷ s) (used y ∷ u) → Within from (used x ∷ s) u
  unfolding Within tally
  skip l h f p q =
      cov_cases y f
      (λ i j w. absurd (omega (arith, under_first f x s a (omega arith))))
      (λ i w. omega (arith, h f p q))
      (λ i w. omega (arith, h f p q))

  -- a region that has all of the chunk's frames left
  within_fewer : Within from (used x ∷ s) (used y ∷ u) → Within from s (used y ∷ u)
  unfolding Within tally
  within_fewer h f p q = h f p (omega arith)

  pass : y.start ≤ max from x.start → x.end ≤ y.end → Within from s (used y ∷ u) → Within from (used x ∷ s) (used y ∷ u)
  unfolding Within tally
  pass l r h f p q =
      cov_cases x f
      (λ i j w. omega (arith, cov_in y f (omega arith) (omega arith)))
      (λ i w. h f p (omega arith))
      (λ i w. h f p (omega arith))

  -- a region that has the first of them
  cut : max from x.start ≤ y.end → Within from (used x ∷ s) (used y ∷ u) → Within (y.end + 1) (used x ∷ s) u
  unfolding Within tally
  cut r h f p q = omega (arith, h f (omega arith) q, cov_above y f (omega arith))

  uncut : y.start ≤ max from x.start → Within (y.end + 1) (used x ∷ s) u → Within from (used x ∷ s) (used y ∷ u)
  unfolding Within tally
  uncut l h f p q =
      cov_cases y f
      (λ i j w. omega arith)
      (λ i w. absurd (omega (arith, under_first f x s a (omega arith))))
      (λ i w. omega (arith, h f (omega arith) q))

  -- the chunk's first frame left is in no region
  not_within : (t : List Slot) → max from x.start ≤ x.end → tally (max from x.start) t ≡ 0 → Within from (used x ∷ s) t → ⊥
  unfolding Within tally
  not_within t h e w = omega (arith, w (max from x.start) (omega arith) (omega (arith, cov_in x (max from x.start) (omega arith) h)))

-- what is left to compare, s and u, says the same as the whole
pub record Left (s₀ u₀ : List Slot) (from : ℕ) (s u : List Slot) : Type 0 where
  forth : Within 0 s₀ u₀ → Within from s u
  back : Within from s u → Within 0 s₀ u₀
  chunks : Spaced 0 s
  regions : Spaced 0 u

module _ (s₀ u₀ : List Slot) (from : ℕ) (x : FrameRange) (s : List Slot) (y : FrameRange) (u : List Slot) (l : Left s₀ u₀ from (used x ∷ s) (used y ∷ u)) where
  left_skip : y.end < max from x.start → Left s₀ u₀ from (used x ∷ s) u
  unfolding Spaced
  left_skip h = record {
    forth = λ w. skip from x s y u l.chunks h (l.forth w);
    back = λ w. l.back (within_less from x s y u l.chunks w);
    chunks = l.chunks;
    regions = spaced_lower 0 (y.end + 1) u (omega arith) l.regions.2;
  }

  left_pass : y.start ≤ max from x.start → x.end ≤ y.end → Left s₀ u₀ from s (used y ∷ u)
  unfolding Spaced
  left_pass h k = record {
    forth = λ w. within_fewer from x s y u l.chunks (l.forth w);
    back = λ w. l.back (pass from x s y u l.chunks h k w);
    chunks = spaced_lower 0 (x.end + 1) s (omega arith) l.chunks.2;
    regions = l.regions;
  }

  left_cut : y.start ≤ max from x.start → max from x.start ≤ y.end → Left s₀ u₀ (y.end + 1) (used x ∷ s) u
  unfolding Spaced
  left_cut h k = record {
    forth = λ w. cut from x s y u l.chunks k (l.forth w);
    back = λ w. l.back (uncut from x s y u l.chunks h w);
    chunks = l.chunks;
    regions = spaced_lower 0 (y.end + 1) u (omega arith) l.regions.2;
  }

  left_not : max from x.start ≤ x.end → max from x.start < y.start → Within 0 s₀ u₀ → ⊥
  left_not h k w = not_within from x s y u l.chunks (used y ∷ u) h (under_first (max from x.start) y u l.regions k) (l.forth w)

-- what the walk knows at chunk i and region j
pub record Reached (n : ℕ) (ws : List ℕ) (m : ℕ) (us : List ℕ) (i j from : ℕ) : Type 0 where
  pub chunks_tidy : tidy true (table_slots n ws) ≡ true
  pub regions_tidy : tidy true (table_slots m us) ≡ true
  pub chunk : i ≤ n
  pub region : j ≤ m
  pub lists : Left (table_slots n ws) (table_slots m us) from (rest n ws i) (rest m us j)
  -- the chunk has a frame left
  pub ahead : i < n → from ≤ (pair_at ws i).end

pub reached_start : (n : ℕ) (ws : List ℕ) (m : ℕ) (us : List ℕ) → tidy true (table_slots n ws) ≡ true → tidy true (table_slots m us) ≡ true → Reached n ws m us 0 0 0
reached_start n ws m us tn tm = record {
  chunks_tidy = tn;
  regions_tidy = tm;
  chunk = omega arith;
  region = omega arith;
  lists = subst (λ (s : List Slot). Left (table_slots n ws) (table_slots m us) 0 s (rest m us 0)) (rest_all n ws) (subst (λ (u : List Slot). Left (table_slots n ws) (table_slots m us) 0 (table_slots n ws) u) (rest_all m us)
      (record { forth = λ w. w; back = λ w. w; chunks = tidy_spaced (table_slots n ws) tn; regions = tidy_spaced (table_slots m us) tm }));
  ahead = λ h. omega arith;
}

module _ (s₀ u₀ : List Slot) (tn : tidy true s₀ ≡ true) where
  -- at the end of the chunks, and of the regions
  is_covered : Within 0 s₀ u₀ → all_of (in_union (entries u₀)) (entries s₀) ≡ true
  unfolding Within
  is_covered w = is_inside s₀ u₀ (tidy_is true s₀ tn).shape.sound (λ f. go f (tally f s₀) refl)
    where
      go : (f k : ℕ) → tally f s₀ ≡ k → tally f s₀ ≤ tally f u₀
      go f zero e = omega arith
      go f (suc k) e = omega (arith, (tidy_is true s₀ tn).once f, w f (omega arith) (omega arith))

  not_covered : (Within 0 s₀ u₀ → ⊥) → false ≡ all_of (in_union (entries u₀)) (entries s₀)
  unfolding Within
  not_covered h = go (all_of (in_union (entries u₀)) (entries s₀)) refl
    where
      go : (b : Bool) → all_of (in_union (entries u₀)) (entries s₀) ≡ b → false ≡ b
      go true e = absurd (h (λ f p q. omega (arith, inside_is s₀ u₀ e (tidy_is true s₀ tn).once f)))
      go false e = refl

module _ {n : ℕ} {ws : List ℕ} {m : ℕ} {us : List ℕ} {i j from : ℕ} (r : Reached n ws m us i j from) where
  abbrev s₀ : List Slot
  s₀ = table_slots n ws

  abbrev u₀ : List Slot
  u₀ = table_slots m us

  pub covered_ends : n ≤ i → true ≡ all_of (in_union (entries u₀)) (entries s₀)
  covered_ends h = sym (is_covered s₀ u₀ r.chunks_tidy (r.lists.back (subst (λ (s : List Slot). Within from s (rest m us j)) (sym (rest_none n ws i h)) (within_none from (rest m us j)))))

  module _ (h : i < n) where
    first_left : max from (pair_at ws i).start ≤ (pair_at ws i).end
    first_left = omega (arith, r.ahead h, (tidy_pair n ws r.chunks_tidy i h).filled)

    one_chunk : Left s₀ u₀ from (used (pair_at ws i) ∷ rest n ws (i + 1)) (rest m us j)
    one_chunk = subst (λ (s : List Slot). Left s₀ u₀ from s (rest m us j)) (slots_cons n i ws h) r.lists

    pub no_region : m ≤ j → false ≡ all_of (in_union (entries u₀)) (entries s₀)
    unfolding tally
    no_region k = not_covered s₀ u₀ r.chunks_tidy (λ w. not_within from (pair_at ws i) (rest n ws (i + 1)) (pair_at ws i) [] one_chunk.chunks (rest m us j) first_left
        (ap (tally (max from (pair_at ws i).start)) (rest_none m us j k)) (one_chunk.forth w))

    module _ (k : j < m) where
      both : Left s₀ u₀ from (used (pair_at ws i) ∷ rest n ws (i + 1)) (used (pair_at us j) ∷ rest m us (j + 1))
      both = subst (λ (u : List Slot). Left s₀ u₀ from (used (pair_at ws i) ∷ rest n ws (i + 1)) u) (slots_cons m j us k) one_chunk

      pub region_below : (pair_at us j).end < max from (pair_at ws i).start → Reached n ws m us i (j + 1) from
      region_below e = record {
        chunks_tidy = r.chunks_tidy;
        regions_tidy = r.regions_tidy;
        chunk = r.chunk;
        region = omega arith;
        lists = subst (λ (s : List Slot). Left s₀ u₀ from s (rest m us (j + 1))) (sym (slots_cons n i ws h))
            (left_skip s₀ u₀ from (pair_at ws i) (rest n ws (i + 1)) (pair_at us j) (rest m us (j + 1)) both e);
        ahead = r.ahead;
      }

      pub in_gap : max from (pair_at ws i).start < (pair_at us j).start → false ≡ all_of (in_union (entries u₀)) (entries s₀)
      in_gap e = not_covered s₀ u₀ r.chunks_tidy (left_not s₀ u₀ from (pair_at ws i) (rest n ws (i + 1)) (pair_at us j) (rest m us (j + 1)) both first_left e)

      pub chunk_in : (pair_at us j).start ≤ max from (pair_at ws i).start → (pair_at ws i).end ≤ (pair_at us j).end → Reached n ws m us (i + 1) j from
      chunk_in e g = record {
        chunks_tidy = r.chunks_tidy;
        regions_tidy = r.regions_tidy;
        chunk = omega arith;
        region = r.region;
        lists = subst (λ (u : List Slot). Left s₀ u₀ from (rest n ws (i + 1)) u) (sym (slots_cons m j us k))
            (left_pass s₀ u₀ from (pair_at ws i) (rest n ws (i + 1)) (pair_at us j) (rest m us (j + 1)) both e g);
        ahead = λ q. omega (arith, r.ahead h, next q);
      }
        where
          next : i + 1 < n → (pair_at ws i).end < (pair_at ws (i + 1)).end
          next q =
              subst (λ (a : ℕ). (pair_at ws i).end < (pair_at ws a).end) (sym (add-one i))
              (omega (arith, spaced_pair 0 n ws i (tidy_spaced s₀ r.chunks_tidy) (omega arith), (tidy_pair n ws r.chunks_tidy (suc i) (omega arith)).filled))

      pub chunk_on : (pair_at us j).start ≤ max from (pair_at ws i).start → max from (pair_at ws i).start ≤ (pair_at us j).end → (pair_at us j).end < (pair_at ws i).end →
          Reached n ws m us i (j + 1) ((pair_at us j).end + 1)
      chunk_on e g o = record {
        chunks_tidy = r.chunks_tidy;
        regions_tidy = r.regions_tidy;
        chunk = r.chunk;
        region = omega arith;
        lists = subst (λ (s : List Slot). Left s₀ u₀ ((pair_at us j).end + 1) s (rest m us (j + 1))) (sym (slots_cons n i ws h))
            (left_cut s₀ u₀ from (pair_at ws i) (rest n ws (i + 1)) (pair_at us j) (rest m us (j + 1)) both e g);
        ahead = λ q. omega arith;
      }
