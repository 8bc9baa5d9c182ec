-- `write_runs`: at each turn a region is done with, or a chunk.
use Prim.Native.Nat.{◌+◌, ◌-◌}
use Rattle.query_held.proofs.Walk.{Walked}
use Rattle.query_held.proofs.write_runs.Given as goal

abbrev pub invariant-loop-i : goal.invariant-loop-i
invariant-loop-i l = Walked l.regions.len l.regions.words.now l.chunks.len l.chunks.words.now l.initial.buffer l.buffer l.i l.j l.from l.runs

abbrev pub decreases-loop-i : goal.decreases-loop-i
decreases-loop-i l = (l.regions.len - l.i) + (l.chunks.len - l.j)
