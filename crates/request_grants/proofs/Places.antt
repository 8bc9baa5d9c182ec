-- Slots that make way for others where they stand, and what that is in the words of the model.
use Prim.Native.Nat.{ℕ, zero, suc, ◌+◌, ◌-◌, ◌≤◌, ◌<◌}
use native.Mathlib.Nat.{suc-add}
use native.Mathlib.Omega.{arith}
use mathlib.Core.Path.{◌≡◌, refl, ap, ◌∙◌}
use mathlib.Core.Bool.{true}
use mathlib.Core.List.{List, [], ◌∷◌, ◌++◌, append_assoc}
use lib.ListN.{length, take, drop, length-append, length-drop}
use lib.Seq.{length-take-le}
use borrow.Author.Tests.{lt-ltb, le-ltb}
use Rattle.memory_structs.specs.declared.range.FrameRange.{FrameRange}
use Rattle.model.specs.Lists.{Slot, unused, used, range_at, insert_sorted, remove, replace_at}
use Rattle.model.proofs.Forms.{remove_run}
use Rattle.tables.proofs.Spaced.{Spaced}
use Rattle.request_grants.specs.Grants.{instead}

-- ---- in the place of slots

pub length_instead : (i k : ℕ) (new s : List Slot) → i + k ≤ length s → length (instead i k new s) ≡ length s - k + length new
unfolding instead
length_instead i k new s h =
    length-append (take i s) (new ++ drop (i + k) s)
    ∙ omega (arith, length-append new (drop (i + k) s), length-take-le i s (omega arith), length-drop (i + k) s)

-- the slots up to the one that is replaced, and those after it
take_replaced : (i : ℕ) (r : FrameRange) (s : List Slot) → i < length s → take (i + 1) (replace_at i r s) ≡ take i s ++ (used r ∷ [])
unfolding replace_at
take_replaced i r [] h = absurd (omega arith)
take_replaced zero r (x ∷ s) h = refl
take_replaced (suc i) r (x ∷ s) h = rw (suc-add i 1) (ap (λ (l : List Slot). x ∷ l) (take_replaced i r s (omega arith)))

drop_replaced : (i n : ℕ) (r : FrameRange) (s : List Slot) → i < n → drop n (replace_at i r s) ≡ drop n s
unfolding replace_at
drop_replaced i n r [] h = refl
drop_replaced i zero r (x ∷ s) h = absurd (omega arith)
drop_replaced zero (suc n) r (x ∷ s) h = refl
drop_replaced (suc i) (suc n) r (x ∷ s) h = drop_replaced i n r s (omega arith)

module _ (i k : ℕ) (r : FrameRange) (s : List Slot) (some : 0 < k) (fits : i + k ≤ length s) where
  sum_same : i + 1 + (k - 1) ≡ i + k
  sum_same = omega arith

  -- new slots after the one that is replaced
  pub replaced_then : (new : List Slot) → instead (i + 1) (k - 1) new (replace_at i r s) ≡ instead i k (used r ∷ new) s
  unfolding instead
  replaced_then new =
      ap (λ (l : List Slot). l ++ (new ++ drop (i + 1 + (k - 1)) (replace_at i r s))) (take_replaced i r s (omega arith))
      ∙ append_assoc (take i s) (used r ∷ []) (new ++ drop (i + 1 + (k - 1)) (replace_at i r s))
      ∙ ap (λ (l : List Slot). take i s ++ (used r ∷ (new ++ l))) (drop_replaced i (i + 1 + (k - 1)) r s (omega arith) ∙ ap (λ (n : ℕ). drop n s) sum_same)

  -- the others are taken out
  pub replaced_removed : remove true (i + 1) (k - 1) (replace_at i r s) ≡ instead i k (used r ∷ []) s
  unfolding instead
  replaced_removed = remove_run (i + 1) (k - 1) (replace_at i r s) ∙ replaced_then []

-- one slot in the place of one
pub replaced_one : (i : ℕ) (r : FrameRange) (s : List Slot) → i < length s → replace_at i r s ≡ instead i 1 (used r ∷ []) s
unfolding remove
replaced_one i r s h = replaced_removed i 1 r s (omega arith) (omega arith)

-- ---- where a range goes in

-- no slot is unused, and none starts above n
unfoldable pub Under : ℕ → List Slot → Type 0
Under n [] = Unit {0}
Under n (unused ∷ s) = ⊥
Under n (used r ∷ s) = (r.start ≤ n) × Under n s

pub insert_past : (x : FrameRange) (p q : List Slot) → Under x.start p → insert_sorted x (p ++ q) ≡ p ++ insert_sorted x q
unfolding Under insert_sorted
insert_past x [] q u = refl
insert_past x (unused ∷ p) q u = absurd u
insert_past x (used r ∷ p) q u = rw (le-ltb x.start r.start u.0) (ap (λ (l : List Slot). used r ∷ l) (insert_past x p q u.1))

pub insert_front : (x : FrameRange) (m : ℕ) (q : List Slot) → Spaced m q → x.start < m → insert_sorted x q ≡ used x ∷ q
unfolding Spaced insert_sorted
insert_front x m [] a h = refl
insert_front x m (unused ∷ q) a h = absurd a
insert_front x m (used r ∷ q) a h = rw (lt-ltb x.start r.start (omega (arith, a.0)))

-- a slot of a spaced list, those before it and those after it
start_from : (m i : ℕ) (s : List Slot) → Spaced m s → i < length s → m ≤ (range_at s i).start
unfolding Spaced range_at
start_from m i [] a h = absurd (omega arith)
start_from m i (unused ∷ s) a h = absurd a
start_from m zero (used r ∷ s) a h = a.0
start_from m (suc i) (used r ∷ s) a h = omega (arith, a.0, a.1, start_from (r.end + 1) i s a.2 (omega arith))

pub slots_before : (m i n : ℕ) (s : List Slot) → Spaced m s → i < length s → (range_at s i).start ≤ n → Under n (take i s)
unfolding Spaced range_at Under
slots_before m i n [] a h p = absurd (omega arith)
slots_before m i n (unused ∷ s) a h p = absurd a
slots_before m zero n (used r ∷ s) a h p = tt
slots_before m (suc i) n (used r ∷ s) a h p =
    (omega (arith, a.1, start_from (r.end + 1) i s a.2 (omega arith)), slots_before (r.end + 1) i n s a.2 (omega arith) p)

pub slots_after : (m i : ℕ) (s : List Slot) → Spaced m s → i < length s → Spaced ((range_at s i).end + 1) (drop (i + 1) s)
unfolding Spaced range_at
slots_after m i [] a h = absurd (omega arith)
slots_after m i (unused ∷ s) a h = absurd a
slots_after m zero (used r ∷ s) a h = a.2
slots_after m (suc i) (used r ∷ s) a h = rw (suc-add i 1) (slots_after (r.end + 1) i s a.2 (omega arith))
