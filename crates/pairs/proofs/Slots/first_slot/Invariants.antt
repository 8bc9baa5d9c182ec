-- `first_slot`: at each turn none of the first i slots passes.
use mathlib.Core.Path.{◌≡◌}
use mathlib.Core.Bool.{Bool}
use Prim.Native.Nat.{◌≤◌}
use lib.ListN.{drop}
use Rattle.model.specs.Lists.{Slot}
use Rattle.pairs.specs.Pairs.{pair_slots}
use Rattle.pairs.specs.Searches.{first_slot, Tests}
use Rattle.pairs.proofs.First.{onward}
use Rattle.pairs.proofs.Slots.first_slot.Given as goal

abbrev pub invariant-loop-i : goal.invariant-loop-i
invariant-loop-i g l =
    (l.i ≤ 32)
    × ((p : Slot → Bool) → Tests (goal.F-post g l.test) p → first_slot p (pair_slots 32 l.self.words.now) ≡ onward l.i (first_slot p (drop l.i (pair_slots 32 l.self.words.now))))
