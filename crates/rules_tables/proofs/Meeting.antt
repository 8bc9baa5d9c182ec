-- Two tidy tables, walked side by side until two pairs meet: what is left says the same of the whole as at the start.
use Prim.Native.Nat.{ℕ, zero, suc, ◌+◌, ◌≤◌, ◌<◌, max}
use native.Mathlib.Omega.{arith}
use mathlib.Core.Path.{◌≡◌, refl, sym, subst}
use mathlib.Core.Bool.{Bool, true, false}
use mathlib.Core.List.{List, [], ◌∷◌}
use Rattle.memory_structs.specs.Range.{meets}
use Rattle.memory_structs.specs.declared.range.FrameRange.{FrameRange}
use Rattle.memory_structs.proofs.Cover.{cov_in, cov_cases}
use Rattle.model.specs.Lists.{Slot, used, entries, any_of}
use Rattle.model.specs.Rules.{tidy}
use Rattle.model.specs.Store.{table_slots}
use Rattle.model.proofs.Cover.{tally}
use Rattle.model.proofs.Ruled.{tidy_is, apart_lists, lists_apart}
use Rattle.tables.proofs.Search.{pair_at, slots_cons}
use Rattle.tables.proofs.Spaced.{Spaced, tidy_spaced, spaced_lower}
use Rattle.rules_tables.proofs.Walks.{rest, rest_all, rest_none, under_first}

-- no frame is in both
unfoldable pub Apart : List Slot → List Slot → Type 0
Apart s u = (f : ℕ) → 0 < tally f s → 0 < tally f u → ⊥

none_first : (u : List Slot) → Apart [] u
unfolding Apart tally
none_first u f p q = omega arith

none_second : (s : List Slot) → Apart s []
unfolding Apart tally
none_second s f p q = omega arith

module _ (x : FrameRange) (s : List Slot) (y : FrameRange) (u : List Slot) where
  fewer_first : Apart (used x ∷ s) (used y ∷ u) → Apart s (used y ∷ u)
  unfolding Apart tally
  fewer_first h f p q = h f (omega arith) q

  more_first : Spaced 0 (used y ∷ u) → x.end < y.start → Apart s (used y ∷ u) → Apart (used x ∷ s) (used y ∷ u)
  unfolding Apart tally
  more_first a l h f p q =
      cov_cases x f
      (λ i j w. omega (arith, under_first f y u a (omega arith)))
      (λ i w. h f (omega arith) q)
      (λ i w. h f (omega arith) q)

  fewer_second : Apart (used x ∷ s) (used y ∷ u) → Apart (used x ∷ s) u
  unfolding Apart tally
  fewer_second h f p q = h f p (omega arith)

  more_second : Spaced 0 (used x ∷ s) → y.end < x.start → Apart (used x ∷ s) u → Apart (used x ∷ s) (used y ∷ u)
  unfolding Apart tally
  more_second a l h f p q =
      cov_cases y f
      (λ i j w. omega (arith, under_first f x s a (omega arith)))
      (λ i w. h f p (omega arith))
      (λ i w. h f p (omega arith))

  -- the higher start is in both
  not_apart : x.start ≤ x.end → y.start ≤ y.end → y.start ≤ x.end → x.start ≤ y.end → Apart (used x ∷ s) (used y ∷ u) → ⊥
  unfolding Apart tally
  not_apart a b p q h =
      h (max x.start y.start)
      (omega (arith, cov_in x (max x.start y.start) (omega arith) (omega arith)))
      (omega (arith, cov_in y (max x.start y.start) (omega arith) (omega arith)))

-- what is left to compare, s and u, says the same as the whole
pub record Same (s₀ u₀ s u : List Slot) : Type 0 where
  pub forth : Apart s₀ u₀ → Apart s u
  pub back : Apart s u → Apart s₀ u₀
  pub first : Spaced 0 s
  pub second : Spaced 0 u

-- what the walk knows at the pairs i and j
pub record Passed (n : ℕ) (ws : List ℕ) (m : ℕ) (us : List ℕ) (i j : ℕ) : Type 0 where
  pub first_tidy : tidy true (table_slots n ws) ≡ true
  pub second_tidy : tidy true (table_slots m us) ≡ true
  pub first : i ≤ n
  pub second : j ≤ m
  pub lists : Same (table_slots n ws) (table_slots m us) (rest n ws i) (rest m us j)

pub passed_start : (n : ℕ) (ws : List ℕ) (m : ℕ) (us : List ℕ) → tidy true (table_slots n ws) ≡ true → tidy true (table_slots m us) ≡ true → Passed n ws m us 0 0
passed_start n ws m us tn tm = record {
  first_tidy = tn;
  second_tidy = tm;
  first = omega arith;
  second = omega arith;
  lists = subst (λ (s : List Slot). Same (table_slots n ws) (table_slots m us) s (rest m us 0)) (rest_all n ws) (subst (λ (u : List Slot). Same (table_slots n ws) (table_slots m us) (table_slots n ws) u) (rest_all m us)
      (record { forth = λ w. w; back = λ w. w; first = tidy_spaced (table_slots n ws) tn; second = tidy_spaced (table_slots m us) tm }));
}

abbrev any_meet : List Slot → List Slot → Bool
any_meet s u = any_of (λ r. any_of (meets r) (entries u)) (entries s)

module _ (s₀ u₀ : List Slot) (tn : tidy true s₀ ≡ true) (tm : tidy true u₀ ≡ true) where
  none_meet : Apart s₀ u₀ → false ≡ any_meet s₀ u₀
  unfolding Apart
  none_meet h = sym (lists_apart s₀ u₀ (λ f. go f (tally f s₀) (tally f u₀) refl refl))
    where
      go : (f a b : ℕ) → tally f s₀ ≡ a → tally f u₀ ≡ b → tally f s₀ + tally f u₀ ≤ 1
      go f zero b p q = omega (arith, (tidy_is true u₀ tm).once f)
      go f (suc a) zero p q = omega (arith, (tidy_is true s₀ tn).once f)
      go f (suc a) (suc b) p q = absurd (h f (omega arith) (omega arith))

  two_meet : (Apart s₀ u₀ → ⊥) → true ≡ any_meet s₀ u₀
  unfolding Apart
  two_meet h = go (any_meet s₀ u₀) refl
    where
      go : (b : Bool) → any_meet s₀ u₀ ≡ b → true ≡ b
      go true e = refl
      go false e = absurd (h (λ f p q. omega (arith, apart_lists s₀ u₀ e (tidy_is true s₀ tn).once (tidy_is true u₀ tm).once f)))

module _ {n : ℕ} {ws : List ℕ} {m : ℕ} {us : List ℕ} {i j : ℕ} (r : Passed n ws m us i j) where
  abbrev s₀ : List Slot
  s₀ = table_slots n ws

  abbrev u₀ : List Slot
  u₀ = table_slots m us

  pub first_ends : n ≤ i → false ≡ any_meet s₀ u₀
  first_ends h = none_meet s₀ u₀ r.first_tidy r.second_tidy (r.lists.back (subst (λ (s : List Slot). Apart s (rest m us j)) (sym (rest_none n ws i h)) (none_first (rest m us j))))

  pub second_ends : m ≤ j → false ≡ any_meet s₀ u₀
  second_ends h = none_meet s₀ u₀ r.first_tidy r.second_tidy (r.lists.back (subst (λ (u : List Slot). Apart (rest n ws i) u) (sym (rest_none m us j h)) (none_second (rest n ws i))))

  module _ (h : i < n) (k : j < m) where
    both : Same s₀ u₀ (used (pair_at ws i) ∷ rest n ws (i + 1)) (used (pair_at us j) ∷ rest m us (j + 1))
    both =
        subst (λ (u : List Slot). Same s₀ u₀ (used (pair_at ws i) ∷ rest n ws (i + 1)) u) (slots_cons m j us k)
        (subst (λ (s : List Slot). Same s₀ u₀ s (rest m us j)) (slots_cons n i ws h) r.lists)

    pub first_below : (pair_at ws i).end < (pair_at us j).start → Passed n ws m us (i + 1) j
    unfolding Spaced
    first_below e = record {
      first_tidy = r.first_tidy;
      second_tidy = r.second_tidy;
      first = omega arith;
      second = r.second;
      lists = subst (λ (u : List Slot). Same s₀ u₀ (rest n ws (i + 1)) u) (sym (slots_cons m j us k))
          (record {
            forth = λ w. fewer_first (pair_at ws i) (rest n ws (i + 1)) (pair_at us j) (rest m us (j + 1)) (both.forth w);
            back = λ w. both.back (more_first (pair_at ws i) (rest n ws (i + 1)) (pair_at us j) (rest m us (j + 1)) both.second e w);
            first = spaced_lower 0 ((pair_at ws i).end + 1) (rest n ws (i + 1)) (omega arith) both.first.2;
            second = both.second;
          });
    }

    pub second_below : (pair_at us j).end < (pair_at ws i).start → Passed n ws m us i (j + 1)
    unfolding Spaced
    second_below e = record {
      first_tidy = r.first_tidy;
      second_tidy = r.second_tidy;
      first = r.first;
      second = omega arith;
      lists = subst (λ (s : List Slot). Same s₀ u₀ s (rest m us (j + 1))) (sym (slots_cons n i ws h))
          (record {
            forth = λ w. fewer_second (pair_at ws i) (rest n ws (i + 1)) (pair_at us j) (rest m us (j + 1)) (both.forth w);
            back = λ w. both.back (more_second (pair_at ws i) (rest n ws (i + 1)) (pair_at us j) (rest m us (j + 1)) both.first e w);
            first = both.first;
            second = spaced_lower 0 ((pair_at us j).end + 1) (rest m us (j + 1)) (omega arith) both.second.2;
          });
    }

    pub pair_meets : (pair_at us j).start ≤ (pair_at ws i).end → (pair_at ws i).start ≤ (pair_at us j).end → true ≡ any_meet s₀ u₀
    unfolding Spaced
    pair_meets p q = two_meet s₀ u₀ r.first_tidy r.second_tidy (λ w. not_apart (pair_at ws i) (rest n ws (i + 1)) (pair_at us j) (rest m us (j + 1)) both.first.1 both.second.1 p q (both.forth w))
