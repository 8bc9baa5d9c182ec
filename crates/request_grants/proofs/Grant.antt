-- A grant, case by case: what is put back, and that in a spaced list it stands where the chosen chunks stood.
use Prim.Native.Nat.{ℕ, ◌+◌, ◌-◌, ◌≤◌, ◌<◌}
use native.Mathlib.Omega.{arith}
use mathlib.Core.Path.{◌≡◌, refl, ap, subst, ◌∙◌}
use mathlib.Core.Bool.{Bool, true, false}
use lib.Dec.{ltb}
use Rattle.std.specs.Prelude.{if◌then◌else◌}
use mathlib.Core.List.{List, [], ◌∷◌, ◌++◌}
use lib.ListN.{take, drop}
use borrow.Author.Tests.{lt-ltb, le-ltb, ltb-true}
use Rattle.memory_structs.specs.Range.{range, empty, is_empty, frames_below, frames_above}
use Rattle.memory_structs.specs.declared.range.FrameRange.{FrameRange}
use Rattle.model.specs.Lists.{Slot, used, range_at, insert, insert_sorted, remove}
use Rattle.model.specs.Store.{slot_words}
use Rattle.model.specs.Requests.{grant_from, put_before, put_after}
use Rattle.model.proofs.Forms.{remove_run}
use Rattle.tables.proofs.Spaced.{Spaced}
use Rattle.request_search.specs.declared.Chosen.{Chosen}
use Rattle.request_grants.specs.Grants.{Chooses, grant_of, put_left, instead}
use Rattle.request_grants.proofs.Places.{Under, insert_past, insert_front, slots_before, slots_after}

-- the parts of a range on either side, where there are any
pub part_before : (r : FrameRange) (f : ℕ) → r.start < f → frames_below r f ≡ range r.start (f - 1)
unfolding frames_below
part_before r f h = rw (lt-ltb r.start f h)

pub part_after : (r : FrameRange) (f : ℕ) → f < r.end → frames_above r f ≡ range (f + 1) r.end
unfolding frames_above
part_after r f h = rw (lt-ltb f r.end h)

-- what is put back before, and after
module _ (b : Bool) (c r : FrameRange) (s : List Slot) where
  pub some_before : c.start < r.start → put_before b c r s ≡ insert b (range c.start (r.start - 1)) s
  unfolding put_before
  some_before h = rw (lt-ltb c.start r.start h)

  pub none_before : r.start ≤ c.start → put_before b c r s ≡ s
  unfolding put_before
  none_before h = rw (le-ltb c.start r.start h)

  pub some_after : r.end < c.end → put_after b c r s ≡ insert b (range (r.end + 1) c.end) s
  unfolding put_after
  some_after h = rw (lt-ltb r.end c.end h)

  pub none_after : c.end ≤ r.end → put_after b c r s ≡ s
  unfolding put_after
  none_after h = rw (le-ltb r.end c.end h)

-- in early form
put_below : (c r : FrameRange) (s : List Slot) → put_left (frames_below c r.start) s ≡ put_before false c r s
unfolding put_left put_before frames_below
put_below c r s = go (ltb c.start r.start) refl
  where
    go : (b : Bool) → ltb c.start r.start ≡ b → (if is_empty (if b then range c.start (r.start - 1) else empty) then s else insert false (if b then range c.start (r.start - 1) else empty) s)
        ≡ (if b then insert false (range c.start (r.start - 1)) s else s)
    go true e = rw (le-ltb (r.start - 1) c.start (omega (arith, ltb-true c.start r.start e)))
    go false e = refl

put_above : (c r : FrameRange) (s : List Slot) → put_left (frames_above c r.end) s ≡ put_after false c r s
unfolding put_left put_after frames_above
put_above c r s = go (ltb r.end c.end) refl
  where
    go : (b : Bool) → ltb r.end c.end ≡ b → (if is_empty (if b then range (r.end + 1) c.end else empty) then s else insert false (if b then range (r.end + 1) c.end else empty) s)
        ≡ (if b then insert false (range (r.end + 1) c.end) s else s)
    go true e = rw (le-ltb c.end (r.end + 1) (omega (arith, ltb-true r.end c.end e)))
    go false e = refl

module _ (c r : FrameRange) (s : List Slot) {x : FrameRange} {words : List ℕ} where
  pub written_below : x ≡ frames_below c r.start → words ≡ slot_words (put_left x s) → words ≡ slot_words (put_before false c r s)
  written_below e w = w ∙ ap (λ (y : FrameRange). slot_words (put_left y s)) e ∙ ap slot_words (put_below c r s)

  pub written_above : x ≡ frames_above c r.end → words ≡ slot_words (put_left x s) → words ≡ slot_words (put_after false c r s)
  written_above e w = w ∙ ap (λ (y : FrameRange). slot_words (put_left y s)) e ∙ ap slot_words (put_above c r s)

module _ (s : List Slot) (c : Chosen) (asked : FrameRange) (spaced : Spaced 0 s) (chosen : Chooses true s c asked) where
  below : (n : ℕ) → c.range.start ≤ n → Under n (take c.first s)
  below n h = slots_before 0 c.first n s spaced (omega (arith, chosen.some, chosen.in_list)) (omega (arith, chosen.begins))

  above : Spaced (c.range.end + 1) (drop (c.first + c.many) s)
  above =
      let last : ℕ = c.first + (c.many - 1) in
      let same : last + 1 ≡ c.first + c.many = omega (arith, chosen.some) in
      let ends : (range_at s last).end + 1 ≡ c.range.end + 1 = omega (arith, chosen.ends) in
      subst (λ (m : ℕ). Spaced m (drop (c.first + c.many) s)) ends
      (subst (λ (n : ℕ). Spaced ((range_at s last).end + 1) (drop n s)) same
      (slots_after 0 last s spaced (omega (arith, chosen.some, chosen.in_list))))

  -- one range goes in where the chunks stood, and a second one after it
  pub put_one : (x : FrameRange) → c.range.start ≤ x.start → x.start ≤ c.range.end → insert_sorted x (remove true c.first c.many s) ≡ instead c.first c.many (used x ∷ []) s
  unfolding instead
  put_one x p q =
      ap (insert_sorted x) (remove_run c.first c.many s)
      ∙ insert_past x (take c.first s) (drop (c.first + c.many) s) (below x.start p)
      ∙ ap (λ (l : List Slot). take c.first s ++ l) (insert_front x (c.range.end + 1) (drop (c.first + c.many) s) above (omega arith))

  pub put_two : (x y : FrameRange) → c.range.start ≤ y.start → x.start ≤ y.start → y.start ≤ c.range.end
      → insert_sorted y (instead c.first c.many (used x ∷ []) s) ≡ instead c.first c.many (used x ∷ used y ∷ []) s
  unfolding instead Under
  put_two x y p h q =
      let rest : List Slot = drop (c.first + c.many) s in
      insert_past y (take c.first s) (used x ∷ rest) (below y.start p)
      ∙ ap (λ (l : List Slot). take c.first s ++ l)
      (insert_past y (used x ∷ []) rest (h, tt) ∙ ap (λ (l : List Slot). used x ∷ l) (insert_front y (c.range.end + 1) rest above (omega arith)))

  abbrev chunk : FrameRange
  chunk = c.range

  abbrev request : FrameRange
  request = asked

  abbrev removed : List Slot
  removed = remove true c.first c.many s

  -- the four cases
  pub grant_none : asked.start ≤ c.range.start → c.range.end ≤ asked.end → grant_of true c asked s ≡ remove true c.first c.many s
  unfolding grant_of grant_from
  grant_none p q = none_after true chunk request (put_before true chunk request removed) q ∙ none_before true chunk request removed p

  pub grant_before : c.range.start < asked.start → c.range.end ≤ asked.end → grant_of true c asked s ≡ instead c.first c.many (used (range c.range.start (asked.start - 1)) ∷ []) s
  unfolding grant_of grant_from insert
  grant_before p q =
      none_after true chunk request (put_before true chunk request removed) q
      ∙ some_before true chunk request removed p
      ∙ put_one (range c.range.start (asked.start - 1)) (omega arith) (omega (arith, chosen.from, chosen.filled, chosen.to))

  pub grant_after : asked.start ≤ c.range.start → asked.end < c.range.end → grant_of true c asked s ≡ instead c.first c.many (used (range (asked.end + 1) c.range.end) ∷ []) s
  unfolding grant_of grant_from insert
  grant_after p q =
      some_after true chunk request (put_before true chunk request removed) q
      ∙ ap (insert_sorted (range (asked.end + 1) c.range.end)) (none_before true chunk request removed p)
      ∙ put_one (range (asked.end + 1) c.range.end) (omega (arith, chosen.from, chosen.filled)) (omega arith)

  pub grant_both : c.range.start < asked.start → asked.end < c.range.end
      → grant_of true c asked s ≡ instead c.first c.many (used (range c.range.start (asked.start - 1)) ∷ used (range (asked.end + 1) c.range.end) ∷ []) s
  unfolding grant_of grant_from insert
  grant_both p q =
      some_after true chunk request (put_before true chunk request removed) q
      ∙ ap (insert_sorted (range (asked.end + 1) c.range.end))
      (some_before true chunk request removed p ∙ put_one (range c.range.start (asked.start - 1)) (omega arith) (omega (arith, chosen.filled, chosen.to)))
      ∙ put_two (range c.range.start (asked.start - 1)) (range (asked.end + 1) c.range.end) (omega (arith, chosen.filled)) (omega (arith, chosen.filled)) (omega arith)
