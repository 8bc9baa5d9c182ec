-- `are_disjoint`: at each turn nothing meets the pieces passed, so that what is left to say is of those that are left.
use Rattle.std.proofs.Common.{◌≡◌, ◌++◌, length}
use Rattle.model.specs.Lists.{disjoint}
use Rattle.boot_filling.proofs.are_disjoint.Given as goal

abbrev pub invariant-loop-piece : goal.invariant-loop-piece
invariant-loop-piece l = disjoint (l.pieces ++ l.reserved) ≡ disjoint (l.left ++ l.reserved)

abbrev pub decreases-loop-piece : goal.decreases-loop-piece
decreases-loop-piece l = length l.left
