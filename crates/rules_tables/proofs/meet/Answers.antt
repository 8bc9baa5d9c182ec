-- `meet`: at each turn the pair that ends below the other is passed.
use native.Mathlib.Omega.{arith}
use Rattle.rules_tables.proofs.Meeting.{passed_start, first_below, second_below, first_ends, second_ends, pair_meets}
use Rattle.rules_tables.proofs.meet.Goals as goal

pub loop-i-init : goal.loop-i-init
loop-i-init c = passed_start _ _ _ _ c.requires.t_value c.requires.u_value

pub loop-i-preserved-then-t-i : goal.loop-i-preserved-then-t-i
loop-i-preserved-then-t-i c = first_below c.loop-i.invariant (omega arith) (omega arith) c.if-t-i.true

pub loop-i-preserved : goal.loop-i-preserved
loop-i-preserved c = second_below c.loop-i.invariant (omega arith) (omega arith) c.if-u-j.true

pub returns-else-u-j : goal.returns-else-u-j
returns-else-u-j c = pair_meets c.loop-i.invariant (omega arith) (omega arith) c.if-t-i.false c.if-u-j.false

pub returns-else-j-u : goal.returns-else-j-u
returns-else-j-u c = second_ends c.loop-i.invariant c.if-j-u.false

pub returns-after-loop-i : goal.returns-after-loop-i
returns-after-loop-i c = first_ends c.loop-i.invariant c.loop-i-test.false
