-- `run`: the bench is ready after each turn.
use Rattle.framebench.specs.Reached.{ReadyAt}
use Rattle.framebench.proofs.run.Given as goal

abbrev pub invariant-loop : goal.invariant-loop
invariant-loop l = ReadyAt l.bench l.buffers.line.items l.buffers.words
