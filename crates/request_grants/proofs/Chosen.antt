-- What a search finds may be granted from.
use Rattle.model.proofs.Steps.{large_hit}
use Prim.Native.Nat.{ℕ, suc, ◌+◌, ◌-◌, ◌≤◌, ◌<◌}
use native.Mathlib.Omega.{arith}
use mathlib.Core.Path.{◌≡◌, refl, sym, ap, subst}
use mathlib.Core.Bool.{Bool, true, false, ◌&&◌, true≢false, and-eq-true_iff}
use mathlib.Core.List.{List}
use lib.ListN.{length}
use lib.Dec.{leb, ltb, eqb}
use borrow.Author.Tests.{leb-true, leb-false}
use Rattle.memory_structs.specs.Range.{range, size, top}
use Rattle.memory_structs.specs.declared.range.FrameRange.{FrameRange}
use Rattle.memory_structs.proofs.Bools.{if_cases}
use Rattle.model.specs.Lists.{Slot, range_at}
use Rattle.std.specs.Prelude.{Option}
use Rattle.std.specs.Prelude.{None, Some}
use Rattle.model.specs.Requests.{Found, not_found, missing, too_short, chunks, find, in_early, in_sorted, with_next, large_enough}
use Rattle.model.specs.Rules.{tidy}
use Rattle.model.proofs.Cover.{Used, Hit, first_hit, last_hit}
use Rattle.model.proofs.Growth.{used_below}
use Rattle.model.proofs.Lawful.{low_at}
use Rattle.model.proofs.Ruled.{tidy_is}
use Rattle.request_grants.specs.Grants.{Chooses}
use Rattle.request_search.specs.declared.Chosen.{Chosen}

abbrev pub chosen : ℕ → ℕ → FrameRange → Chosen
chosen i k c = record { first = i; many = k; range = c }

-- the one chunk at i holds the frames
one_chosen : (sorted : Bool) (s : List Slot) (i : ℕ) (asked : FrameRange) → Used s i → (range_at s i).start ≤ asked.start → asked.start ≤ asked.end → asked.end ≤ (range_at s i).end → Chooses sorted s (chosen i 1 (range_at s i)) asked
one_chosen sorted s i asked u a h b = record {
  some = omega arith;
  in_list = omega (arith, used_below s i u);
  one = λ e. refl;
  begins = refl;
  ends = let z : i + (1 - 1) ≡ i = omega arith in ap (λ (j : ℕ). (range_at s j).end) (sym z);
  from = a;
  filled = h;
  to = b;
}

-- it and the one after it do
two_chosen : (s : List Slot) (i : ℕ) (asked : FrameRange) → Used s i → suc i < length s → (range_at s i).start ≤ asked.start → asked.start ≤ asked.end → asked.end ≤ (range_at s (suc i)).end
    → Chooses true s (chosen i 2 (range (range_at s i).start (range_at s (suc i)).end)) asked
two_chosen s i asked u n a h b = record {
  some = omega arith;
  in_list = omega arith;
  one = λ e. absurd (true≢false e);
  begins = refl;
  ends = let z : i + (2 - 1) ≡ suc i = omega arith in ap (λ (j : ℕ). (range_at s j).end) (sym z);
  from = a;
  filled = h;
  to = b;
}

-- what a search answers is so
unfoldable Choice : Bool → FrameRange → List Slot → Found → Type 0
Choice sorted r s not_found = Unit {0}
Choice sorted r s (missing f n) = Unit {0}
Choice sorted r s too_short = Unit {0}
Choice sorted r s (chunks i k c) = Chooses sorted s (chosen i k c) r

module _ (r : FrameRange) (s : List Slot) (h : r.start ≤ r.end) where
  early_choice : (q : Option ℕ) → Hit (λ c. leb c.start r.start && leb r.end c.end) s q → Choice false r s (in_early s q)
  unfolding Choice in_early Hit
  early_choice None a = tt
  early_choice (Some i) a =
      let both = (and-eq-true_iff _ _).0 a.0 in
      one_chosen false s i r a.1 (leb-true _ _ both.0) h (leb-true _ _ both.1)

  sorted_choice : (q : Option ℕ) → Hit (λ c. leb c.start r.start) s q → Choice true r s (in_sorted r s q)
  unfolding Choice in_sorted with_next Hit
  sorted_choice None a = tt
  sorted_choice (Some i) a =
      let from : (range_at s i).start ≤ r.start = leb-true _ _ a.0 in
      if_cases (Choice true r s) (ltb (range_at s i).end r.start) (λ e. tt)
      (λ e. if_cases (Choice true r s) (leb r.end (range_at s i).end)
      (λ e. one_chosen true s i r a.1 from h (leb-true _ _ e))
      (λ e. if_cases (Choice true r s) (leb (length s) (suc i)) (λ e. tt)
      (λ n. if_cases (Choice true r s) (eqb (range_at s (suc i)).start ((range_at s i).end + 1))
      (λ e. if_cases (Choice true r s) (leb r.end (range_at s (suc i)).end)
      (λ e. two_chosen s i r a.1 (leb-false _ _ n) from h (leb-true _ _ e))
      (λ e. tt))
      (λ e. tt))))

  find_choice : (sorted : Bool) → Choice sorted r s (find sorted r s)
  unfolding find
  find_choice true = sorted_choice _ (last_hit (λ c. leb c.start r.start) s)
  find_choice false = early_choice _ (first_hit (λ c. leb c.start r.start && leb r.end c.end) s)

pub search_chooses : (sorted : Bool) (s : List Slot) (c : Chosen) (asked : FrameRange) → asked.start ≤ asked.end
    → find sorted asked s ≡ chunks c.first c.many c.range → Chooses sorted s c asked
unfolding Choice
search_chooses sorted s c asked h e = subst (Choice sorted asked s) e (find_choice asked s h sorted)

-- a chunk that is large enough for a count
module _ (sorted : Bool) (s : List Slot) (n i : ℕ) (some : 0 < n) (e : large_enough sorted n s ≡ Some i) where
  hit : (n ≤ size (range_at s i)) × Used s i
  unfolding Hit
  hit = let a = subst (Hit (λ c. leb n (size c)) s) e (large_hit sorted n s) in (leb-true n (size (range_at s i)) a.0, a.1)

  -- the chunk's beginning, of n frames
  pub place_chooses : Chooses sorted s (chosen i 1 (range_at s i)) (range (range_at s i).start ((range_at s i).start + n - 1))
  place_chooses = one_chosen sorted s i (range (range_at s i).start ((range_at s i).start + n - 1)) hit.1 (omega arith) (omega arith) (omega (arith, hit.0))

  pub place_low : tidy sorted s ≡ true → (range_at s i).start + n - 1 ≤ top
  place_low t = omega (arith, hit.0, low_at i s (tidy_is sorted s t).shape.sound)
