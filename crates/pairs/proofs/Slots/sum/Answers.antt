-- `sum`: every frame of the slots is at or below the top.
use mathlib.Core.Path.{ap, ◌∙◌}
use Rattle.model.proofs.Ruled.{tidy_is}
use Rattle.pairs.proofs.Covered.{counted_all}
use Rattle.model.specs.Lists.{entries}
use Rattle.pairs.specs.Pairs.{pair_slots}
use Rattle.pairs.specs.Frames.{frames_in}
use Rattle.pairs.proofs.Slots.sum.Goals as goal

pub returns : goal.returns
returns c = c.frames_in.ensures ∙ ap (λ r. frames_in r (entries (pair_slots 32 c.args.self.words.now))) c.new.ensures ∙ counted_all (pair_slots 32 c.args.self.words.now) (tidy_is _ _ c.requires).shape.sound
