-- `early_rules::is_plain`: at each turn the first i slots are plain.
use mathlib.Core.Path.{sym, ◌∙◌}
use Rattle.rules_early.specs.Slot.{plain_slot}
use Rattle.rules_early.proofs.Stored.{each_fails, each_later, each_done, sizes}
use native.Mathlib.Omega.{arith}
use Rattle.rules_early.proofs.is_plain.Goals as goal

pub returns-then-not-is_plain_slot-clause-plain : goal.returns-then-not-is_plain_slot-clause-plain
returns-then-not-is_plain_slot-clause-plain c =
    sym (c.loop-i.invariant ∙ each_fails plain_slot c.args.list.now c.loop-i.i (sizes _ (omega arith) (omega arith) (omega arith)) (omega arith) (sym c.is_plain_slot.ensures ∙ c.if-not-is_plain_slot.true))

pub loop-i-preserved : goal.loop-i-preserved
loop-i-preserved c =
    c.loop-i.invariant ∙ each_later plain_slot c.args.list.now c.loop-i.i (sizes _ (omega arith) (omega arith) (omega arith)) (omega arith) (sym c.is_plain_slot.ensures ∙ c.if-not-is_plain_slot.false)

pub returns-clause-plain : goal.returns-clause-plain
returns-clause-plain c = sym (c.loop-i.invariant ∙ each_done plain_slot c.args.list.now c.loop-i.i (sizes _ (omega arith) (omega arith) (omega arith)) (omega arith))
