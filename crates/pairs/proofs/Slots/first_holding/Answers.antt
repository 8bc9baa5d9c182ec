-- `first_holding`: the first slot that passes.
use Rattle.std.proofs.Common.{rules}
use mathlib.Core.Path.{sym, ◌∙◌}
use Rattle.memory_structs.specs.Range.{inside}
use Rattle.pairs.specs.Pairs.{pair_slots}
use Rattle.pairs.specs.Searches.{passes}
use Rattle.pairs.proofs.First.{where_is}
use Rattle.pairs.proofs.Slots.first_holding.Goals as goal

pub returns : goal.returns
returns c = c.first_slot.ensures (passes (λ r. inside r c.args.range)) (λ r b u v e. search rules) ∙ sym (where_is _ (pair_slots 32 c.args.self.words.now))
