-- `empty_slot`: the pair is the model's removal of one slot.
use mathlib.Core.Path.{sym, ap, ◌∙◌}
use Rattle.model.specs.Lists.{unused}
use Rattle.model.specs.Store.{slot_words}
use Rattle.pairs.proofs.First.{remove_is}
use Rattle.pairs.specs.Pairs.{pair_slots}
use Rattle.pairs.proofs.Pairs.{put, pairs_length}
use native.Mathlib.Omega.{arith}
use Rattle.pairs.proofs.empty_slot.Goals as goal

pub returns : goal.returns
returns c =
    c.put.ensures ∙ put c.args.i unused c.args.t.now c.requires.pairs c.requires.i_bound
    ∙ sym (ap slot_words (remove_is (pair_slots 32 c.args.t.now) c.args.i (omega (arith, c.requires.i_bound, pairs_length 32 c.args.t.now))))
