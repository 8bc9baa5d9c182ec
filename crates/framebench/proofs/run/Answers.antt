-- `run`: the bench is ready before the first line.
use Rattle.bench_answers.proofs.Replying.{first_ready}
use Rattle.std.proofs.Common.{ap, length, arith}
use Rattle.framebench.proofs.run.Goals as goal

pub loop-init : goal.loop-init
loop-init c = record { ready = first_ready c.begin-bench.ensures c.requires.1; held_in = omega (arith, ap length c.requires.0) }
