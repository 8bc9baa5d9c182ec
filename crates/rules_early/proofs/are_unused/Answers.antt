-- `are_unused`: the bits of the flags passed, joined, and the flags to come.
use mathlib.Core.Path.{refl, sym, ◌∙◌}
use Rattle.tables.proofs.Zeros.{zero_more, zero_end}
use native.Mathlib.Omega.{arith}
use Rattle.rules_early.proofs.are_unused.Goals as goal

pub loop-used-init : goal.loop-used-init
loop-used-init c = refl

pub loop-used-preserved : goal.loop-used-preserved
loop-used-preserved c = c.loop-used.invariant ∙ zero_more _ c.loop-used.used-index c.loop-used.seen (omega arith)

pub returns : goal.returns
returns c = sym (c.loop-used.invariant ∙ zero_end _ c.loop-used.used-index c.loop-used.seen (omega arith))
