-- `first_unused`: the first slot that passes.
use Rattle.std.proofs.Common.{rules}
use mathlib.Core.Path.{◌≡◌, ◌∙◌}
use Rattle.memory_structs.specs.Range.{is_empty}
use Rattle.pairs.specs.Searches.{is_unused}
use Rattle.pairs.proofs.Turns.{unused_is_empty}
use Rattle.pairs.proofs.Slots.first_unused.Goals as goal

pub returns : goal.returns
returns c = c.first_slot.ensures is_unused (λ r b u v e. let k : b ≡ is_empty r = search rules in k ∙ unused_is_empty r)
