-- `give_back`: the tests in their order, and then the list of the kind.
use native.Mathlib.Omega.{arith}
use Rattle.lists.specs.Whole.{slots_at}
use Rattle.lists.proofs.Whole.{does_refuse, does_count}
use Rattle.returns.proofs.Giving.{nothing_given, above_top_holds, free_before, in_neither}
use Rattle.returns.proofs.give_back.Goals as goal

pub returns-then-is_empty : goal.returns-then-is_empty
returns-then-is_empty c = rw c.counted.ensures (does_count _ _ c.requires 0 _ (nothing_given _ _ c.is_empty.ensures c.if-is_empty.true))

pub returns-then-is_above_top : goal.returns-then-is_above_top
returns-then-is_above_top c = does_refuse _ _ c.requires 2 _ (grind (arith, above_top_holds))

pub returns-then-is_any_free : goal.returns-then-is_any_free
returns-then-is_any_free c = does_refuse _ _ c.requires 19 _ (grind (arith, free_before))

pub returns : goal.returns
unfolding slots_at
returns c = does_refuse _ _ c.requires 19 _ (grind (arith, in_neither))
