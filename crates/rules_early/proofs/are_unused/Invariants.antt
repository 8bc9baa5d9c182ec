-- `are_unused`: the bits of the flags passed, joined, and the flags to come.
use mathlib.Core.Path.{◌≡◌}
use mathlib.Core.Bool.{◌&&◌}
use lib.ListN.{drop}
use lib.Dec.{eqb}
use Rattle.model.specs.Store.{all_zero}
use Rattle.rules_early.proofs.are_unused.Given as goal

abbrev pub invariant-loop-used : goal.invariant-loop-used
invariant-loop-used l = all_zero l.used-items ≡ (eqb l.seen 0 && all_zero (drop l.used-index l.used-items))
