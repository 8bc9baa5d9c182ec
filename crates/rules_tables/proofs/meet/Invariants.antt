-- `meet`: at each turn the pair that ends below the other is passed.
use Prim.Native.Nat.{◌+◌, ◌-◌}
use Rattle.rules_tables.proofs.Meeting.{Passed}
use Rattle.rules_tables.proofs.meet.Given as goal

abbrev pub invariant-loop-i : goal.invariant-loop-i
invariant-loop-i l = Passed l.t.len l.t.words.now l.u.len l.u.words.now l.i l.j

abbrev pub decreases-loop-i : goal.decreases-loop-i
decreases-loop-i l = (l.t.len - l.i) + (l.u.len - l.j)
