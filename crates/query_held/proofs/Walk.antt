-- The walk over the regions and the free chunks: what it knows, and what each turn adds.
use Prim.Native.Nat.{ℕ, ◌+◌, ◌-◌, ◌*◌, ◌≤◌, ◌<◌, max}
use native.Mathlib.Omega.{arith}
use mathlib.Core.Path.{◌≡◌, refl, sym, ap, subst, ◌∙◌}
use mathlib.Core.Bool.{Bool, true, false, not, ◌&&◌}
use mathlib.Core.List.{List, [], ◌∷◌}
use lib.ListN.{length, drop}
use lib.Dec.{leb, ltb, eqb}
use borrow.Author.Tests.{ltb-true, ltb-false}
use Rattle.std.specs.Prelude.{if◌then◌else◌, Some}
use Rattle.memory_structs.specs.Range.{range, covers}
use Rattle.memory_structs.specs.declared.range.FrameRange.{FrameRange}
use Rattle.memory_structs.proofs.Cover.{cov, cov_in, cov_below, cov_above}
use Rattle.model.specs.Lists.{Lists, Slot, used, entries, any_of}
use Rattle.model.specs.Rules.{tidy}
use Rattle.model.specs.Store.{table_slots}
use Rattle.model.specs.Queries.{is_held, held_list, pairs, written}
use Rattle.model.proofs.Cover.{tally}
use Rattle.model.proofs.Plainly.{covered_some, covered_none}
use Rattle.model.proofs.Ruled.{tidy_is}
use Rattle.tables.proofs.Search.{pair_at, slots_cons}
use Rattle.tables.proofs.Spaced.{Spaced, tidy_spaced, spaced_lower, none_under}
use Rattle.tables.proofs.Sums.{tidy_few}
use Rattle.query_held.specs.Runs.{two_tables, HeldWritten, next_start, put_count, put_words}
use Rattle.query_held.proofs.Stack.{Upto, upto_none, join_run, put_run, upto_put, up, length_up, upto_held}
use Rattle.query_held.proofs.Put.{stacked, stacked_length, put_words_holds, put_count_holds}
use Rattle.query_held.proofs.Steps.{a_chunk, is_chunk}

-- ---- held frames by tallies

module _ (gr gf : List Slot) (f : ℕ) where
  held_yes : 0 < tally f gr → tally f gf ≡ 0 → is_held (two_tables gr gf) f ≡ true
  unfolding is_held two_tables
  held_yes h e = rw (covered_some f gr h, covered_none f gf e)

  held_outside : tally f gr ≡ 0 → is_held (two_tables gr gf) f ≡ false
  unfolding is_held two_tables
  held_outside e = rw (covered_none f gr e)

  held_free : 0 < tally f gf → is_held (two_tables gr gf) f ≡ false
  unfolding is_held two_tables
  held_free h = go (any_of (λ r. covers r f) (entries gr))
    where
      go : (b : Bool) → (b && not (any_of (λ r. covers r f) (entries gf))) ≡ false
      go true = rw (covered_some f gf h)
      go false = refl

-- ---- one table, from its pair at i on

abbrev pub rest : ℕ → List ℕ → ℕ → List Slot
rest n ws i = table_slots (n - i) (drop (2 * i) ws)

-- every pair before i ends below the mark
pub record Past (n : ℕ) (ws : List ℕ) (i from : ℕ) : Type 0 where
  pub few : i ≤ n
  pub tallies : (f : ℕ) → from ≤ f → tally f (table_slots n ws) ≡ tally f (rest n ws i)
  pub spaced : Spaced 0 (rest n ws i)

past_start : (n : ℕ) (ws : List ℕ) → tidy true (table_slots n ws) ≡ true → Past n ws 0 0
past_start n ws t =
    let e : n - 0 ≡ n = omega arith in
    record { few = omega arith; tallies = λ f h. rw e refl; spaced = subst (λ (k : ℕ). Spaced 0 (table_slots k ws)) (sym e) (tidy_spaced (table_slots n ws) t) }

module _ (n : ℕ) (ws : List ℕ) (i from : ℕ) (a : Past n ws i from) where
  past_higher : (q : ℕ) → from ≤ q → Past n ws i q
  past_higher q h = record { few = a.few; tallies = λ f k. a.tallies f (omega arith); spaced = a.spaced }

  past_none : n ≤ i → (f : ℕ) → from ≤ f → tally f (table_slots n ws) ≡ 0
  unfolding tally table_slots
  past_none h f k =
      let e : n - i ≡ 0 = omega arith in
      a.tallies f k ∙ ap (λ (m : ℕ). tally f (table_slots m (drop (2 * i) ws))) e

  -- the pair at i
  module _ (h : i < n) where
    abbrev this : FrameRange
    this = pair_at ws i

    spaced_on : Spaced 0 (used this ∷ rest n ws (i + 1))
    spaced_on = subst (λ (s : List Slot). Spaced 0 s) (slots_cons n i ws h) a.spaced

    filled : this.start ≤ this.end
    unfolding Spaced
    filled = spaced_on.1

    tally_on : (f : ℕ) → from ≤ f → tally f (table_slots n ws) ≡ cov this f + tally f (rest n ws (i + 1))
    unfolding tally
    tally_on f k = a.tallies f k ∙ ap (tally f) (slots_cons n i ws h)

    past_next : Past n ws (i + 1) (max from (this.end + 1))
    unfolding Spaced
    past_next = record {
      few = omega arith;
      tallies = λ f k. omega (arith, tally_on f (omega arith), cov_above this f (omega arith));
      spaced = spaced_lower 0 (this.end + 1) (rest n ws (i + 1)) (omega arith) spaced_on.2;
    }

    under_pair : (f : ℕ) → from ≤ f → f < this.start → tally f (table_slots n ws) ≡ 0
    unfolding Spaced
    under_pair f k l =
        omega (arith, tally_on f k, cov_below this f l, none_under f (this.end + 1) (rest n ws (i + 1)) spaced_on.2 (omega (arith, filled)))

    in_pair : (f : ℕ) → from ≤ f → this.start ≤ f → f ≤ this.end → 0 < tally f (table_slots n ws)
    in_pair f k l m = omega (arith, tally_on f k, cov_in this f l m)

-- ---- the walk

-- at region i and chunk j: k runs are in the buffer, with the held frames below the mark
pub record Walked (m : ℕ) (us : List ℕ) (n : ℕ) (ws base now : List ℕ) (i j from k : ℕ) : Type 0 where
  pub regions_tidy : tidy true (table_slots m us) ≡ true
  pub chunks_tidy : tidy true (table_slots n ws) ≡ true
  pub long : 2048 ≤ length base
  pub regions : Past m us i from
  pub chunks : Past n ws j from
  pub stack : List FrameRange
  pub count : k ≡ length stack
  pub room : k ≤ i + j
  pub upto : Upto (is_held (two_tables (table_slots m us) (table_slots n ws))) from stack
  pub words : now ≡ stacked stack base

put_few : (s e : ℕ) (rs : List FrameRange) → length (put_run s e rs) ≤ length rs + 1
unfolding put_run join_run
put_few s e rs = go (leb e s) rs
  where
    join : (b : Bool) (r : FrameRange) (rs : List FrameRange) → length (if b then range r.start (e - 1) ∷ rs else range s (e - 1) ∷ r ∷ rs) ≤ length (r ∷ rs) + 1
    join true r rs = omega arith
    join false r rs = omega arith

    go : (b : Bool) (rs : List FrameRange) → length (if b then rs else join_run s e rs) ≤ length rs + 1
    go true rs = omega arith
    go false [] = omega arith
    go false (r ∷ rs) = join (eqb (r.end + 1) s) r rs

pub walk_start : (m : ℕ) (us : List ℕ) (n : ℕ) (ws base : List ℕ) → tidy true (table_slots m us) ≡ true → tidy true (table_slots n ws) ≡ true → 2048 ≤ length base → Walked m us n ws base base 0 0 0 0
unfolding stacked written pairs up
walk_start m us n ws base tm tn long = record {
  regions_tidy = tm;
  chunks_tidy = tn;
  long = long;
  regions = past_start m us tm;
  chunks = past_start n ws tn;
  stack = [];
  count = refl;
  room = omega arith;
  upto = upto_none (is_held (two_tables (table_slots m us) (table_slots n ws)));
  words = refl;
}

module _ {m : ℕ} {us : List ℕ} {n : ℕ} {ws base now : List ℕ} {i j from k : ℕ} (w : Walked m us n ws base now i j from k) where
  abbrev l : Lists
  l = two_tables (table_slots m us) (table_slots n ws)

  -- no region is left
  module _ (h : m ≤ i) where
    stack_listed : up w.stack ≡ held_list l
    unfolding two_tables
    stack_listed =
        upto_held l (tidy_is true (table_slots m us) w.regions_tidy).shape.sound from w.stack w.upto
        (λ f g. held_outside (table_slots m us) (table_slots n ws) f (past_none m us i from w.regions h f g))

    pub walk_ends : HeldWritten l k base now
    unfolding stacked
    walk_ends = record {
      counted = w.count ∙ sym (length_up w.stack) ∙ ap length stack_listed;
      buffer = w.words ∙ ap (λ (rs : List FrameRange). written rs base) stack_listed;
    }

  few : 2 * k ≤ 2048
  few = omega (arith, w.room, w.regions.few, w.chunks.few, tidy_few m us w.regions_tidy, tidy_few n ws w.chunks_tidy)

  pub walk_length : length now ≡ length base
  walk_length = ap length w.words ∙ stacked_length base w.stack (omega (arith, few, w.count))

  pub walk_room : i < m → 2 * k + 2 ≤ length base
  walk_room h = omega (arith, w.room, w.chunks.few, tidy_few m us w.regions_tidy, tidy_few n ws w.chunks_tidy)

  module _ (h : i < m) where
    abbrev r : FrameRange
    r = pair_at us i

    abbrev first : ℕ
    first = max from r.start

    -- the next chunk, as `next_start` answers it
    pub chunk_there : {x : ℕ} → Some x ≡ next_start n ws j → (j < n) × (x ≡ (pair_at ws j).start)
    chunk_there e = is_chunk n ws j (sym e)

    -- the frames from `first` up to e, not included, are put in, and all below q are done with
    put : (e q i' j' : ℕ) → Past m us i' q → Past n ws j' q → i + j + 1 ≤ i' + j' → Upto (is_held l) q (put_run first e w.stack) → (k' : ℕ) (now' : List ℕ) →
        k' ≡ put_count k first e now → now' ≡ put_words k first e now → Walked m us n ws base now' i' j' q k'
    put e q i' j' a b o u k' now' x y = record {
      regions_tidy = w.regions_tidy;
      chunks_tidy = w.chunks_tidy;
      long = w.long;
      regions = a;
      chunks = b;
      stack = put_run first e w.stack;
      count = counted;
      room = omega (arith, counted, put_few first e w.stack, w.room, w.count);
      upto = u;
      words = y ∙ (λ t. put_words (w.count t) first e (w.words t)) ∙ put_words_holds base first e w.stack (omega (arith, walk_room h, w.count));
    }
      where
        counted : k' ≡ length (put_run first e w.stack)
        counted = x ∙ (λ t. put_count (w.count t) first e (w.words t)) ∙ put_count_holds base first e w.stack

    -- no chunk begins in what is left of the region
    region_turn : (j < n → r.end < (pair_at ws j).start) → (k' : ℕ) (now' : List ℕ) → k' ≡ put_count k first (r.end + 1) now → now' ≡ put_words k first (r.end + 1) now →
        Walked m us n ws base now' (i + 1) j (max from (r.end + 1)) k'
    region_turn c k' now' x y =
        put (r.end + 1) q (i + 1) j (past_next m us i from w.regions h) (past_higher n ws j from w.chunks q (omega arith)) (omega arith)
        (upto_put (is_held l) from q first (r.end + 1) w.stack w.upto (omega arith) (omega arith) (omega arith)
        (λ f g t. held_yes _ _ f (in_pair m us i from w.regions h f (omega arith) (omega arith) (omega arith)) (free f (omega arith) (omega arith)))
        (λ f g t v. held_outside _ _ f (under_pair m us i from w.regions h f g (omega arith)))
        (λ f g t v. absurd (omega arith)))
        k' now' x y
      where
        q : ℕ
        q = max from (r.end + 1)

        free : (f : ℕ) → from ≤ f → f ≤ r.end → tally f (table_slots n ws) ≡ 0
        free f g t = go (ltb j n) refl
          where
            go : (b : Bool) → ltb j n ≡ b → tally f (table_slots n ws) ≡ 0
            go true e = under_pair n ws j from w.chunks (ltb-true j n e) f g (omega (arith, c (ltb-true j n e)))
            go false e = past_none n ws j from w.chunks (ltb-false j n e) f g

    -- the next chunk begins in or below it
    chunk_turn : (g : j < n) → (pair_at ws j).start ≤ r.end → (k' : ℕ) (now' : List ℕ) → k' ≡ put_count k first (pair_at ws j).start now → now' ≡ put_words k first (pair_at ws j).start now →
        Walked m us n ws base now' i (j + 1) (max from ((pair_at ws j).end + 1)) k'
    chunk_turn o c k' now' x y =
        put (pair_at ws j).start q i (j + 1) (past_higher m us i from w.regions q (omega arith)) (past_next n ws j from w.chunks o) (omega arith)
        (upto_put (is_held l) from q first (pair_at ws j).start w.stack w.upto (omega arith) (omega arith) (omega (arith, filled n ws j from w.chunks o))
        (λ f g t. held_yes _ _ f (in_pair m us i from w.regions h f (omega arith) (omega arith) (omega arith)) (under_pair n ws j from w.chunks o f (omega arith) t))
        (λ f g t v. held_outside _ _ f (under_pair m us i from w.regions h f g (omega arith)))
        (λ f g t v. held_free _ _ f (in_pair n ws j from w.chunks o f g v (omega arith))))
        k' now' x y
      where
        q : ℕ
        q = max from ((pair_at ws j).end + 1)

    -- as the code has it: where the next chunk begins, the first frame put in and the new mark are numbers that it computed
    pub chunk_done : {x f q k' : ℕ} {now' : List ℕ} → Some x ≡ next_start n ws j → x ≤ r.end → f ≡ first → q ≡ max from ((pair_at ws j).end + 1) →
        (k' ≡ put_count k f x now) × (now' ≡ put_words k f x now) → Walked m us n ws base now' i (j + 1) q k'
    chunk_done {x} {f} {q} {k'} {now'} e g p t u =
        let c = chunk_there e in
        subst (λ (q : ℕ). Walked m us n ws base now' i (j + 1) q k') (sym t)
        (chunk_turn c.0 (omega (arith, c.1, g)) k' now' (u.0 ∙ (λ v. put_count k (p v) (c.1 v) now)) (u.1 ∙ (λ v. put_words k (p v) (c.1 v) now)))

    pub region_done : {f q k' : ℕ} {now' : List ℕ} → ((x : ℕ) → next_start n ws j ≡ Some x → r.end < x) → f ≡ first → q ≡ max from (r.end + 1) →
        (k' ≡ put_count k f (r.end + 1) now) × (now' ≡ put_words k f (r.end + 1) now) → Walked m us n ws base now' (i + 1) j q k'
    region_done {f} {q} {k'} {now'} above p t u =
        subst (λ (q : ℕ). Walked m us n ws base now' (i + 1) j q k') (sym t)
        (region_turn (λ o. above _ (a_chunk n ws j o)) k' now' (u.0 ∙ (λ v. put_count k (p v) (r.end + 1) now)) (u.1 ∙ (λ v. put_words k (p v) (r.end + 1) now)))
