-- `is_tidy`: the pairs passed have frames, each above the one before it.
use Rattle.rules_tables.proofs.Spacing.{InOrder}
use Rattle.rules_tables.proofs.is_tidy.Given as goal

abbrev pub invariant-loop-i : goal.invariant-loop-i
invariant-loop-i l = InOrder l.i l.table.words.now
