-- `pack`: four lists, one after the other.
use native.Mathlib.Omega.{arith}
use Rattle.lists.proofs.Turns.{pack_all}
use Rattle.lists.proofs.packing.pack.Goals as goal

pub returns : goal.returns
returns c = pack_all c.args.entries.now (omega arith) c.args.a.now c.pack_list.ensures.size c.pack_list-2.ensures.size c.pack_list-3.ensures.size
    c.pack_list.ensures.words c.pack_list-2.ensures.words c.pack_list-3.ensures.words c.pack_list-4.ensures.words
