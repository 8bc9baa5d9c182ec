-- `hold`: as many bytes as have room are put behind the others.
use Rattle.std.proofs.Common.{◌∙◌, arith}
use lib.ListN.{length-take}
use Rattle.bench_lines.proofs.Held.{as_many, done}
use Rattle.bench_lines.proofs.hold.Goals as goal

pub returns : goal.returns
returns g c =
    let a = c.args in
    let e = c.try_extend_from_slice.ensures in
    done c.try_extend_from_slice.result (e.variant.1 (omega (arith, length-take c.min-taken.result a.more.now, c.min-taken.ensures, c.remaining_capacity.ensures))) e.ok
    ∙ as_many a.line.now.items a.more.now c.remaining_capacity.result c.min-taken.result c.remaining_capacity.ensures c.min-taken.ensures
