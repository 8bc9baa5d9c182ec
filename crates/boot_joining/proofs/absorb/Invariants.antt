-- `absorb`: at each turn the first area has taken in what it met of those passed.
use Rattle.boot_joining.proofs.Joining.{Absorbing}
use Rattle.boot_joining.proofs.absorb.Given as goal

abbrev pub invariant-loop-other : goal.invariant-loop-other
invariant-loop-other l = Absorbing l.fn.first l.others l.area l.rest.items l.other-index
