-- `contains_any`: at each turn none of the slots before i meets the range.
use mathlib.Core.Path.{◌≡◌}
use Rattle.memory_structs.specs.Range.{meets}
use Rattle.model.specs.Lists.{any_of}
use Rattle.pairs.proofs.Turns.{left}
use Rattle.pairs.proofs.Slots.contains_any.Given as goal

abbrev pub invariant-loop-i : goal.invariant-loop-i
invariant-loop-i l = any_of (meets l.range) (left 0 l.self.words.now) ≡ any_of (meets l.range) (left l.i l.self.words.now)
