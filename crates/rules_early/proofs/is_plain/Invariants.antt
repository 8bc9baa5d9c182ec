-- `early_rules::is_plain`: at each turn the first i slots are plain.
use mathlib.Core.Path.{◌≡◌}
use Rattle.rules_early.specs.Slot.{plain_slot, plain}
use Rattle.rules_early.proofs.Stored.{each_from}
use Rattle.rules_early.proofs.is_plain.Given as goal

abbrev pub invariant-loop-i : goal.invariant-loop-i
invariant-loop-i l = plain l.list ≡ each_from plain_slot l.i l.list
