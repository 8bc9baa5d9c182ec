-- `are_empty`: the bits of the slots passed, joined, and the slots to come.
use mathlib.Core.Path.{refl, sym, ◌∙◌}
use Rattle.rules_early.proofs.Stored.{empty_more, empty_end}
use native.Mathlib.Omega.{arith}
use Rattle.rules_early.proofs.are_empty.Goals as goal

pub loop-i-init : goal.loop-i-init
loop-i-init c = refl

pub loop-i-preserved : goal.loop-i-preserved
loop-i-preserved c = c.loop-i.invariant ∙ empty_more _ _ c.loop-i.i c.loop-i.seen (omega arith) (omega arith)

pub returns-clause-empty : goal.returns-clause-empty
returns-clause-empty c = sym (c.loop-i.invariant ∙ empty_end _ _ c.loop-i.i c.loop-i.seen (omega arith))
