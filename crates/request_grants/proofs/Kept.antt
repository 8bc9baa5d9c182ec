-- What an operation leaves of a list can be stored, and ascends or has 32 slots as before, so that the next operation may follow.
use mathlib.Core.Path.{◌≡◌, ◌∙◌}
use mathlib.Core.Bool.{Bool, true, false}
use mathlib.Core.List.{List, [], ◌∷◌}
use Prim.Native.Nat.{ℕ, zero, suc, ◌≤◌}
use native.Mathlib.Omega.{arith}
use lib.ListN.{length}
use Rattle.memory_structs.specs.declared.range.FrameRange.{FrameRange}
use Rattle.model.specs.Lists.{Slot, insert, remove, remove_one}
use Rattle.model.specs.Rules.{slotted}
use Rattle.model.proofs.Cover.{early_length, remove_length}
use Rattle.model.proofs.Lawful.{Slots, sorted_rising, remove_rising}
use Rattle.model.proofs.Ruled.{slotted_is, is_slotted}
use Rattle.model.proofs.Stored.{AllUsed, none, one, Storable, early, sorted}

-- slots taken out

one_removed : (i : ℕ) {s : List Slot} → AllUsed s → AllUsed (remove_one true i s)
unfolding remove_one
one_removed i none = none
one_removed zero (one u) = u
one_removed (suc i) (one u) = one (one_removed i u)

shorter : (i : ℕ) (s : List Slot) → length (remove_one true i s) ≤ length s
unfolding remove_one
shorter i [] = omega arith
shorter zero (x ∷ s) = omega arith
shorter (suc i) (x ∷ s) = omega (arith, shorter i s)

removed_one : {b : Bool} (i : ℕ) {s : List Slot} → Storable b s → Storable b (remove_one b i s)
removed_one i {s = s} (early h) = early (remove_length i s ∙ h)
removed_one i {s = s} (sorted u h) = sorted (one_removed i u) (omega (arith, shorter i s))

pub removed_storable : {b : Bool} (i k : ℕ) {s : List Slot} → Storable b s → Storable b (remove b i k s)
unfolding remove
removed_storable i zero v = v
removed_storable i (suc k) v = removed_one i (removed_storable (suc i) k v)

one_slotted : (b : Bool) (i : ℕ) (s : List Slot) → Slots b s → Slots b (remove_one b i s)
one_slotted true i s a = remove_rising i s 0 a
one_slotted false i s a = remove_length i s ∙ a

removed_slots : (b : Bool) (i k : ℕ) (s : List Slot) → Slots b s → Slots b (remove b i k s)
unfolding remove
removed_slots b i zero s a = a
removed_slots b i (suc k) s a = one_slotted b i (remove b (suc i) k s) (removed_slots b (suc i) k s a)

pub removed_slotted : (b : Bool) (i k : ℕ) (s : List Slot) → slotted b s ≡ true → slotted b (remove b i k s) ≡ true
removed_slotted b i k s e = is_slotted b (remove b i k s) (removed_slots b i k s (slotted_is b s e))

-- a range put in

inserted_slots : (b : Bool) (r : FrameRange) (s : List Slot) → Slots b s → Slots b (insert b r s)
unfolding insert
inserted_slots true r s a = sorted_rising r s 0 (omega arith) a
inserted_slots false r s a = early_length r s ∙ a

pub inserted_slotted : (b : Bool) (r : FrameRange) (s : List Slot) → slotted b s ≡ true → slotted b (insert b r s) ≡ true
inserted_slotted b r s e = is_slotted b (insert b r s) (inserted_slots b r s (slotted_is b s e))
