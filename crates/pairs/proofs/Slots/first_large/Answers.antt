-- `first_large`: the first slot that passes.
use Rattle.std.proofs.Common.{rules}
use mathlib.Core.Path.{sym, ◌∙◌}
use lib.Dec.{leb}
use Rattle.memory_structs.specs.Range.{size}
use Rattle.pairs.specs.Pairs.{pair_slots}
use Rattle.pairs.specs.Searches.{passes}
use Rattle.pairs.proofs.First.{where_is}
use Rattle.pairs.proofs.Slots.first_large.Goals as goal

pub returns : goal.returns
returns c = c.first_slot.ensures (passes (λ r. leb c.args.n (size r))) (λ r b u v e. search rules) ∙ sym (where_is _ (pair_slots 32 c.args.self.words.now))
