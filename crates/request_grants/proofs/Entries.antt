-- How many entries a grant leaves.
use Prim.Native.Nat.{ℕ, zero, suc, ◌+◌, ◌-◌, ◌≤◌, ◌<◌}
use native.Mathlib.Omega.{arith}
use mathlib.Core.Path.{◌≡◌, refl, sym, ap, ◌∙◌}
use mathlib.Core.Bool.{Bool, true, false, not, ◌&&◌}
use mathlib.Core.List.{List, [], ◌∷◌}
use lib.ListN.{length}
use lib.Dec.{ltb, leb, eqb}
use borrow.Author.Tests.{lt-ltb, le-ltb, leb-true, leb-false, eqb-true, eqb-false}
use Rattle.memory_structs.specs.declared.range.FrameRange.{FrameRange}
use Rattle.std.specs.Prelude.{if◌then◌else◌}
use Rattle.memory_structs.proofs.Bools.{if_cases}
use Rattle.model.specs.Lists.{Slot, unused, used, entries, bound, range_at, remove, remove_one}
use Rattle.model.specs.Requests.{entries_after}
use Rattle.model.specs.Store.{table_slots}
use Rattle.model.proofs.Stored.{Storable, early, sorted, table_length, table_used}
use Rattle.model.proofs.Whole.{used_count}
use Rattle.model.proofs.Ruled.{tidy_is}
use Rattle.lists.specs.declared.Part.{Part}
use Rattle.lists.specs.Part.{part_slots, IsTidy}
use Rattle.lists.proofs.Forms.{length_removed, part_storable}
use Rattle.request_grants.proofs.Kept.{removed_storable}
use Rattle.request_search.specs.declared.Chosen.{Chosen}
use Rattle.request_grants.specs.Grants.{Chooses, entries_left, cut_in_two, overfull}

-- 1 where something is left over between a and b, else 0
abbrev pub leftover : ℕ → ℕ → ℕ
leftover a b = if ltb a b then 1 else 0

pub one_leftover : (a b : ℕ) → a < b → leftover a b ≡ 1
one_leftover a b h = rw (lt-ltb a b h)

pub no_leftover : (a b : ℕ) → b ≤ a → leftover a b ≡ 0
no_leftover a b h = rw (le-ltb a b h)

pub leftover_bound : (a b : ℕ) → leftover a b ≤ 1
leftover_bound a b = if_cases (λ (n : ℕ). n ≤ 1) (ltb a b) (λ e. omega arith) (λ e. omega arith)

-- a slot whose range has a frame is used: emptied, it is one entry less
one_emptied : (i : ℕ) (s : List Slot) → (range_at s i).start ≤ (range_at s i).end → length (entries (remove_one false i s)) + 1 ≡ length (entries s)
unfolding remove_one range_at entries
one_emptied i [] h = absurd (omega arith)
one_emptied zero (unused ∷ s) h = absurd (omega arith)
one_emptied zero (used r ∷ s) h = omega arith
one_emptied (suc i) (unused ∷ s) h = one_emptied i s h
one_emptied (suc i) (used r ∷ s) h = omega (arith, one_emptied i s h)

pub all_used : {s : List Slot} → Storable true s → length s ≡ length (entries s)
all_used (sorted u h) = used_count u

module _ (c : Chosen) (asked : FrameRange) where
  -- the chosen chunks, taken out
  pub taken_out : {b : Bool} {s : List Slot} → Storable b s → Chooses b s c asked → length (entries (remove b c.first c.many s)) + c.many ≡ length (entries s)
  unfolding remove
  taken_out {s = s} (early h) chosen =
      let one : c.many ≡ 1 = chosen.one refl in
      let here : c.first + (c.many - 1) ≡ c.first = omega arith in
      let ends : c.range.end ≡ (range_at s c.first).end = chosen.ends ∙ ap (λ (j : ℕ). (range_at s j).end) here in
      ap (λ (k : ℕ). length (entries (remove false c.first k s)) + k) one
      ∙ one_emptied c.first s (omega (arith, chosen.begins, chosen.from, chosen.filled, chosen.to))
  taken_out {s = s} (sorted u h) chosen =
      omega (
        arith,
        chosen.in_list,
        used_count u,
        all_used (removed_storable c.first c.many (sorted u h)),
        length_removed c.first c.many s chosen.in_list,
      )

  pub left_is : {b : Bool} {s : List Slot} → Storable b s → Chooses b s c asked
      → entries_left b c asked s ≡ length (entries s) - c.many + leftover c.range.start asked.start + leftover asked.end c.range.end
  unfolding entries_left entries_after
  left_is v chosen = omega (arith, taken_out v chosen)

-- only one chunk that is cut in two adds an entry
module _ (p : Part) (c : Chosen) (asked : FrameRange) (ws : List ℕ) (t : IsTidy p ws) (chosen : Chooses p.sorted (part_slots p ws) c asked) where
  abbrev slots : List Slot
  slots = part_slots p ws

  abbrev entries_now : ℕ
  entries_now = length (entries slots)

  v : Storable p.sorted slots
  v = part_storable p.sorted p.len ws t.part

  few : entries_now ≤ bound p.sorted
  few = (tidy_is p.sorted slots t.keeps).few

  no_more : c.many ≤ entries_now
  no_more = omega (arith, taken_out c asked v chosen)

  abbrev below : ℕ
  below = leftover c.range.start asked.start

  abbrev above : ℕ
  above = leftover asked.end c.range.end

  left_now : entries_left p.sorted c asked slots ≡ entries_now - c.many + below + above
  left_now = left_is c asked v chosen

  fits : entries_now - c.many + below + above ≤ bound p.sorted → false ≡ overfull p.sorted c asked slots
  fits h = sym (le-ltb _ _ (omega (arith, left_now, h)))

  decided : (x : Bool) → cut_in_two c asked ≡ x → (x && leb (bound p.sorted) entries_now) ≡ overfull p.sorted c asked slots
  decided x z = ap (λ (y : Bool). y && leb (bound p.sorted) entries_now) (sym z) ∙ go (eqb c.many 1) (eqb c.range.start asked.start) (eqb c.range.end asked.end) (leb (bound p.sorted) entries_now) refl refl refl refl
    where
      go : (m q r f : Bool) → eqb c.many 1 ≡ m → eqb c.range.start asked.start ≡ q → eqb c.range.end asked.end ≡ r → leb (bound p.sorted) entries_now ≡ f → ((m && (not q && not r)) && f) ≡ overfull p.sorted c asked slots
      go true false false true d e f g = sym (lt-ltb _ _ (omega (
        arith,
        left_now,
        no_more,
        eqb-true _ _ d,
        leb-true _ _ g,
        one_leftover c.range.start asked.start (omega (arith, chosen.from, eqb-false _ _ e)),
        one_leftover asked.end c.range.end (omega (arith, chosen.to, eqb-false _ _ f)),
      )))
      go true false false false d e f g = fits (omega (arith, no_more, eqb-true _ _ d, leb-false _ _ g, leftover_bound c.range.start asked.start, leftover_bound asked.end c.range.end))
      go true false true x d e f g = fits (omega (arith, few, no_more, eqb-true _ _ d, leftover_bound c.range.start asked.start, no_leftover asked.end c.range.end (omega (arith, eqb-true _ _ f))))
      go true true r x d e f g = fits (omega (arith, few, no_more, eqb-true _ _ d, leftover_bound asked.end c.range.end, no_leftover c.range.start asked.start (omega (arith, eqb-true _ _ e))))
      go false q r x d e f g = fits (omega (arith, few, no_more, chosen.some, eqb-false _ _ d, leftover_bound c.range.start asked.start, leftover_bound asked.end c.range.end))

  pub cut_fills : cut_in_two c asked ≡ true → leb (bound p.sorted) entries_now ≡ overfull p.sorted c asked slots
  cut_fills e = decided true e

  pub cut_nowhere : cut_in_two c asked ≡ false → false ≡ overfull p.sorted c asked slots
  cut_nowhere e = decided false e

-- a table has room for both parts
pub room_for_two : (len : ℕ) (ws : List ℕ) (c : Chosen) (asked : FrameRange) → len ≤ 512 → Chooses true (table_slots len ws) c asked → c.range.start < asked.start → asked.end < c.range.end
    → entries_left true c asked (table_slots len ws) ≤ 512 → len + 2 ≤ c.many + 512
room_for_two len ws c asked h chosen p q few =
    let s : List Slot = table_slots len ws in
    let v : Storable true s = sorted (table_used len ws) (omega (arith, table_length len ws)) in
    omega (arith, left_is c asked v chosen, one_leftover c.range.start asked.start p, one_leftover asked.end c.range.end q, taken_out c asked v chosen, all_used v, table_length len ws)
