-- `boot_tested`: the lists filled, or the number of what refuses it.
use Rattle.boot.proofs.Given.{tested_refuses, tested_fills}
use Rattle.boot.proofs.boot_tested.Goals as goal

pub returns-in-Err : goal.returns-in-Err
returns-in-Err g c = λ ws known.
    let f = c.fill.ensures in
    rw (c.from.ensures, c.in-Err.ensures.err)
    (tested_refuses _ _ (g.met.M.BootMap.is_boot c.args.map.now) c.args.a.now ws c.args.tested known c.fill.result f.tested (f.number ws) c.in-Err.refusal c.in-Err.is)

pub returns-in-Ok : goal.returns-in-Ok
returns-in-Ok g c = λ ws known.
    let f = c.fill.ensures in
    rw (c.counted.ensures, c.in-Ok.ensures.ok)
    (tested_fills _ _ (g.met.M.BootMap.is_boot c.args.map.now) c.args.a.now ws c.args.tested known c.fill.result f.tested (f.number ws) c.in-Ok.is)
