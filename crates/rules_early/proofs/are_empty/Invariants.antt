-- `are_empty`: the bits of the slots passed, joined, and the slots to come.
use mathlib.Core.Path.{◌≡◌}
use mathlib.Core.Bool.{◌&&◌}
use lib.ListN.{drop}
use lib.Dec.{eqb}
use Rattle.rules_early.specs.Slot.{all_empty}
use Rattle.rules_early.proofs.are_empty.Given as goal

abbrev pub invariant-loop-i : goal.invariant-loop-i
invariant-loop-i l = all_empty l.list.starts l.list.ends ≡ (eqb l.seen 0 && all_empty (drop l.i l.list.starts) (drop l.i l.list.ends))
