-- `pack_list`: at each turn the first i pairs are written.
use mathlib.Core.Path.{◌∙◌}
use Rattle.lists.proofs.Turns.{pack_start, pack_turn, pack_end}
use native.Mathlib.Omega.{arith}
use Rattle.lists.proofs.packing.pack_list.Goals as goal

pub loop-i-init : goal.loop-i-init
loop-i-init c = record { size = c.requires; packed = pack_start c.args.list.now.starts c.args.list.now.ends c.args.t.now }

pub loop-i-preserved : goal.loop-i-preserved
loop-i-preserved c =
    let v = c.loop-i.invariant in record {
      size = omega (arith, v.size, c.put.auto.t);
      packed = c.put.ensures ∙ rw (v.packed, c.new.ensures) (pack_turn c.loop-i.i c.args.list.now.starts c.args.list.now.ends c.args.t.now (omega arith) (omega arith) (omega arith));
    }

pub returns-clause-words : goal.returns-clause-words
returns-clause-words c = c.loop-i.invariant.packed ∙ pack_end c.loop-i.i c.args.list.now.starts c.args.list.now.ends c.args.t.now (omega arith) (omega arith) (omega arith)
