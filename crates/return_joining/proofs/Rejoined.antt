-- A return to one list, as the searches find it.
use Prim.Native.Nat.{ℕ, ◌+◌, ◌≤◌, ◌<◌}
use native.Mathlib.Omega.{arith}
use mathlib.Core.Path.{◌≡◌, refl, sym, ap, subst, ◌∙◌}
use mathlib.Core.Bool.{Bool, true, false}
use mathlib.Core.List.{List}
use lib.ListN.{length}
use lib.Dec.{ltb, eqb}
use borrow.Author.Tests.{lt-ltb, le-ltb, le-leb, lt-leb}
use Rattle.memory_structs.specs.Range.{range}
use Rattle.memory_structs.specs.declared.range.FrameRange.{FrameRange}
use Rattle.model.specs.Lists.{Slot, entries, first_where, range_at, insert, insert_sorted, insert_early, replace_at, bound}
use Rattle.std.specs.Prelude.{Option, None, Some}
use Rattle.model.specs.Returns.{join_below, join_above, rejoin, given, no_place}
use Rattle.model.specs.Store.{table_slots, table_words}
use Rattle.model.proofs.Cover.{Hit, first_hit, sorted_count}
use Rattle.model.proofs.Growth.{used_below}
use Rattle.model.proofs.Stored.{table_length, table_used}
use Rattle.model.proofs.Whole.{used_count}
use Rattle.tables.specs.Words.{IsTable}
use Rattle.tables.proofs.Search.{leb_same}
use Rattle.model.specs.Store.{slot_words, length_in}
use Rattle.pairs.specs.Pairs.{pair_slots}
use Rattle.lists.specs.Part.{pairs_in, part_words}
use Rattle.lists.proofs.Forms.{at_sorted, at_early, length_replaced, replaced_used}
use Rattle.return_joining.specs.Rejoins.{GoesBack}

-- a pair that a search answers is one of the table's
pub found_pair : (p : FrameRange → Bool) (n : ℕ) (ws : List ℕ) (i : ℕ) → Some i ≡ first_where p (table_slots n ws) → i < n
unfolding Hit
found_pair p n ws i e = omega (arith, used_below (table_slots n ws) i (rw (← e) at (first_hit p (table_slots n ws))).1, table_length n ws)

-- what a return is by what touches the range
module _ (r : FrameRange) (s : List Slot) where
  pub found_above : (i : ℕ) → Some i ≡ first_where (λ c. eqb c.start (r.end + 1)) s → given true r s ≡ replace_at i (range r.start (range_at s i).end) s
  unfolding given rejoin join_above
  found_above i e = ap (join_above r s) (sym e)

  module _ (above : None ≡ first_where (λ c. eqb c.start (r.end + 1)) s) where
    pub found_under : (i : ℕ) → Some i ≡ first_where (λ c. eqb (c.end + 1) r.start) s → given true r s ≡ replace_at i (range (range_at s i).start r.end) s
    unfolding given rejoin join_above join_below
    found_under i e = ap (join_above r s) (sym above) ∙ ap (join_below r s) (sym e)

    pub found_neither : None ≡ first_where (λ c. eqb (c.end + 1) r.start) s → given true r s ≡ insert true r s
    unfolding given rejoin join_above join_below insert
    found_neither e = ap (join_above r s) (sym above) ∙ ap (join_below r s) (sym e)

-- a range that no chunk is joined to is one entry more
pub one_more : (b : Bool) (r : FrameRange) (s : List Slot) → given b r s ≡ insert b r s → no_place b r s ≡ ltb (bound b) (length (entries s) + 1)
unfolding given no_place insert bound
one_more true r s e =
    let n : length (entries (insert_sorted r s)) ≡ length (entries s) + 1 = omega (arith, sorted_count r s) in
    ap (λ (t : List Slot). ltb 512 (length (entries t))) e ∙ ap (ltb 512) n
one_more false r s e = leb_same 32 (length (entries s)) 33 (length (entries s) + 1) (λ h. omega arith) (λ h. omega arith)

-- a range that no pair is joined to has a place just where the table has one
module _ (r : FrameRange) (n : ℕ) (ws : List ℕ) (e : given true r (table_slots n ws) ≡ insert true r (table_slots n ws)) where
  pairs : length (entries (table_slots n ws)) ≡ n
  pairs = sym (used_count (table_used n ws)) ∙ table_length n ws

  pub table_full : 512 ≤ n → no_place true r (table_slots n ws) ≡ true
  unfolding bound
  table_full h = one_more true r (table_slots n ws) e ∙ lt-ltb 512 (length (entries (table_slots n ws)) + 1) (omega (arith, pairs))

  pub table_room : n < 512 → no_place true r (table_slots n ws) ≡ false
  unfolding bound
  table_room h = one_more true r (table_slots n ws) e ∙ le-ltb 512 (length (entries (table_slots n ws)) + 1) (omega (arith, pairs))

-- a table with a place
module _ (r : FrameRange) (n : ℕ) (ws : List ℕ) (t : IsTable n ws) where
  pub table_goes : no_place true r (table_slots n ws) ≡ false → (x : List Slot) → given true r (table_slots n ws) ≡ x → (m : ℕ) (after : List ℕ) → m ≡ length x → after ≡ table_words x
      → GoesBack true r (table_slots n ws) ws (Some m) after
  unfolding length_in part_words
  table_goes e x same m after c w = (e, rw same (record { len = c; words = w }))

  -- a pair that is rewritten where it stands: no entry more, so that there is a place
  pub joined : (i : ℕ) (x : FrameRange) → given true r (table_slots n ws) ≡ replace_at i x (table_slots n ws)
      → (y : FrameRange) → y ≡ x → (after : List ℕ) → after ≡ table_words (replace_at i y (table_slots n ws)) → GoesBack true r (table_slots n ws) ws (Some n) after
  unfolding no_place given bound rejoin
  joined i x same y p after w =
      let s = table_slots n ws in
      let m : length (replace_at i x s) ≡ n = length_replaced i x s ∙ table_length n ws in
      let few : length (entries (given true r s)) ≤ 512 = omega (arith, t.fits, m, used_count (replaced_used i x (table_used n ws)), ap (λ (z : List Slot). length (entries z)) same) in
      table_goes (le-ltb 512 (length (entries (given true r s))) few) (replace_at i x s) same n after (sym m) (w ∙ ap (λ (z : FrameRange). table_words (replace_at i z s)) p)

-- "Early: first empty slot."
module _ (r : FrameRange) (ws : List ℕ) where
  pub slots_full : 32 ≤ length (entries (pair_slots 32 ws)) → {after : List ℕ} → after ≡ ws → GoesBack false r (pair_slots 32 ws) ws None after
  unfolding no_place bound
  slots_full h same = (le-leb 32 (length (entries (pair_slots 32 ws))) h, same)

  pub slot_added : length (entries (pair_slots 32 ws)) < 32 → {after : List ℕ} → after ≡ slot_words (insert_early r (pair_slots 32 ws)) → GoesBack false r (pair_slots 32 ws) ws (Some 0) after
  unfolding no_place bound given insert length_in part_words
  slot_added h w = (lt-leb 32 (length (entries (pair_slots 32 ws))) h, record { len = refl; words = w })

-- the form that the list has
module _ (r : FrameRange) (n : ℕ) (ws : List ℕ) (after : List ℕ) (g : Option ℕ) {b : Bool} where
  pub by_table : b ≡ true → GoesBack true r (table_slots n ws) ws g after → GoesBack b r (pairs_in b n ws) ws g after
  by_table e x = subst (λ (y : Bool × List Slot). GoesBack y.0 r y.1 ws g after) (sym (at_sorted (λ c s. (c, s)) n ws e)) x

  pub by_slots : b ≡ false → GoesBack false r (pair_slots 32 ws) ws g after → GoesBack b r (pairs_in b n ws) ws g after
  by_slots e x = subst (λ (y : Bool × List Slot). GoesBack y.0 r y.1 ws g after) (sym (at_early (λ c s. (c, s)) n ws e)) x
