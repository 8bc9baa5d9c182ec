-- `pass`: at each turn the areas passed over are joined, and the others left.
use Rattle.std.proofs.Common.{length}
use Rattle.boot_joining.proofs.Joining.{Passing}
use Rattle.boot_joining.proofs.pass.Given as goal

abbrev pub invariant-loop-first : goal.invariant-loop-first
invariant-loop-first l = Passing l.fn.areas.items l.joined.items l.left.items

abbrev pub decreases-loop-first : goal.decreases-loop-first
decreases-loop-first l = length l.left.items
