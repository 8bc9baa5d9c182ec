-- `fill`: reserved areas that are neither refused nor end above the top may be carved out.
use Rattle.boot.proofs.Numbers.{may_carve}
use Rattle.boot.proofs.fill.Goals as goal

pub carve-requires : goal.carve-requires
carve-requires g c = rw c.as_slice.ensures.ranges (may_carve _ _ c.in_ok-reserved.ensures (g.met.M.BootMap.bounded c.args.map.now))
