-- `join`: each pass that joins something leaves fewer areas, to be joined in turn.
use Rattle.std.proofs.Common.{◌≡◌, length}
use Rattle.model.specs.Boot as model
use Rattle.boot_joining.proofs.join.Given as goal

abbrev pub invariant-loop-areas : goal.invariant-loop-areas
invariant-loop-areas l = model.join l.fn.areas.items ≡ model.join l.areas.items

abbrev pub decreases-loop-areas : goal.decreases-loop-areas
decreases-loop-areas l = length l.areas.items
