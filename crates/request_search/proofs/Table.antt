-- What the search in a table answers, case by case.
use Prim.Native.Nat.{ℕ, suc, ◌+◌, ◌-◌, ◌≤◌, ◌<◌}
use native.Mathlib.Omega.{arith}
use native.Mathlib.Numerals.{add-one}
use mathlib.Core.Path.{◌≡◌, sym, ap, ◌∙◌}
use mathlib.Core.Bool.{true}
use mathlib.Core.List.{List}
use lib.Dec.{leb}
use borrow.Author.Tests.{le-leb, lt-leb, le-ltb, lt-ltb, eq-eqb, ne_eqb}
use Rattle.memory_structs.specs.Range.{range}
use Rattle.memory_structs.specs.declared.range.FrameRange.{FrameRange}
use Rattle.model.specs.Lists.{Slot, range_at, last_where}
use Rattle.std.specs.Prelude.{Option}
use Rattle.std.specs.Prelude.{None, Some}
use Rattle.std.specs.Prelude.{Ok, Err}
use Rattle.model.specs.Requests.{chunks, find, in_sorted, with_next}
use Rattle.model.specs.declared.refusals.Refusal.TheVariants.{NotFound, Missing, TooShort}
use Rattle.model.specs.Store.{table_slots}
use Rattle.model.proofs.Stored.{table_length}
use Rattle.tables.proofs.Search.{pair_at, range_at_holds}
use Rattle.request_search.specs.Searches.{answer_of}

-- the pair at i holds the first frame and not the last: the pair after it, if there is one, decides
module _ (n i e : ℕ) (c : FrameRange) (ws : List ℕ) where
  pub none_next : n ≤ i + 1 → Err (Missing (c.end + 1) (e - c.end)) ≡ answer_of (with_next (table_slots n ws) i e c (range_at (table_slots n ws) (suc i)))
  unfolding with_next answer_of
  none_next h = rw (table_length n ws, le-leb n (suc i) (omega arith))

  next_is : i + 1 < n → range_at (table_slots n ws) (suc i) ≡ pair_at ws (i + 1)
  next_is h = ap (range_at (table_slots n ws)) (sym (add-one i)) ∙ sym (range_at_holds n (i + 1) ws h)

  pub gap_next : i + 1 < n → ((pair_at ws (i + 1)).start ≡ c.end + 1 → ⊥) → Err NotFound ≡ answer_of (with_next (table_slots n ws) i e c (range_at (table_slots n ws) (suc i)))
  unfolding with_next answer_of
  gap_next h g = rw (table_length n ws, lt-leb n (suc i) (omega arith), next_is h, ne_eqb (pair_at ws (i + 1)).start (c.end + 1) g)

  pub short_next : i + 1 < n → (pair_at ws (i + 1)).start ≡ c.end + 1 → (pair_at ws (i + 1)).end < e → Err TooShort ≡ answer_of (with_next (table_slots n ws) i e c (range_at (table_slots n ws) (suc i)))
  unfolding with_next answer_of
  short_next h g k =
      rw (table_length n ws, lt-leb n (suc i) (omega arith), next_is h, eq-eqb (pair_at ws (i + 1)).start (c.end + 1) g, lt-leb e (pair_at ws (i + 1)).end k)

  pub both_next : i + 1 < n → (pair_at ws (i + 1)).start ≡ c.end + 1 → e ≤ (pair_at ws (i + 1)).end
      → Ok (record { first = i; many = 2; range = range c.start (pair_at ws (i + 1)).end }) ≡ answer_of (with_next (table_slots n ws) i e c (range_at (table_slots n ws) (suc i)))
  unfolding with_next answer_of
  both_next h g k =
      rw (table_length n ws, lt-leb n (suc i) (omega arith), next_is h, eq-eqb (pair_at ws (i + 1)).start (c.end + 1) g, le-leb e (pair_at ws (i + 1)).end k)

-- the pair at i is the highest that starts at or below the request
module _ (n i : ℕ) (r : FrameRange) (ws : List ℕ) (h : i < n) where
  pub below : (pair_at ws i).end < r.start → Err NotFound ≡ answer_of (in_sorted r (table_slots n ws) (Some i))
  unfolding in_sorted answer_of
  below g = rw (sym (range_at_holds n i ws h), lt-ltb (pair_at ws i).end r.start g)

  pub holds_all : r.start ≤ (pair_at ws i).end → r.end ≤ (pair_at ws i).end → answer_of (chunks i 1 (pair_at ws i)) ≡ answer_of (in_sorted r (table_slots n ws) (Some i))
  unfolding in_sorted
  holds_all g k = rw (sym (range_at_holds n i ws h), le-ltb (pair_at ws i).end r.start g, le-leb r.end (pair_at ws i).end k)

  pub holds_first : r.start ≤ (pair_at ws i).end → (pair_at ws i).end < r.end
      → answer_of (with_next (table_slots n ws) i r.end (pair_at ws i) (range_at (table_slots n ws) (suc i))) ≡ answer_of (in_sorted r (table_slots n ws) (Some i))
  unfolding in_sorted
  holds_first g k = rw (sym (range_at_holds n i ws h), le-ltb (pair_at ws i).end r.start g, lt-leb r.end (pair_at ws i).end k)

-- the search goes by that pair
pub found_in : (r : FrameRange) (s : List Slot) (q : Option ℕ) → q ≡ last_where (λ c. leb c.start r.start) s → answer_of (in_sorted r s q) ≡ answer_of (find true r s)
unfolding find
found_in r s q e = ap (λ (o : Option ℕ). answer_of (in_sorted r s o)) e

pub nothing_below : (r : FrameRange) (s : List Slot) → None ≡ last_where (λ c. leb c.start r.start) s → Err NotFound ≡ answer_of (find true r s)
unfolding in_sorted answer_of
nothing_below r s e = found_in r s None e
