-- `fill`: the pair is the slot.
use mathlib.Core.Path.{◌∙◌}
use Rattle.model.specs.Lists.{used}
use Rattle.pairs.proofs.Pairs.{put}
use Rattle.pairs.proofs.fill.Goals as goal

pub returns : goal.returns
returns c = c.put.ensures ∙ put c.args.i (used c.args.range) c.args.t.now c.requires.pairs c.requires.i_bound
