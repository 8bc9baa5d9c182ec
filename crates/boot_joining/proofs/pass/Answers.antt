-- `pass`: at each turn the areas passed over are joined, and the others left.
use Rattle.std.proofs.Common.{sym, ◌∙◌}
use Rattle.boot_joining.proofs.Joining.{passing_smaller, passing_more}
use Rattle.boot_joining.proofs.pass.Goals as goal

pub loop-first-smaller : goal.loop-first-smaller
loop-first-smaller c = passing_smaller _ _ _ c.loop-first.invariant _ _ (sym c.as_slice.ensures.ranges ∙ c.in-Some.ensures.cases.0) _ c.absorb-rest.ensures.rest

pub loop-first-preserved : goal.loop-first-preserved
loop-first-preserved c = passing_more _ _ _ c.loop-first.invariant _ _ (sym c.as_slice.ensures.ranges ∙ c.in-Some.ensures.cases.0) _ c.absorb-rest.ensures.rest _ _ c.absorb-rest.ensures.area c.push.ensures.items
