-- `covers_all`: at each turn a region that is done with is passed, or a chunk that lies in regions.
use Prim.Native.Nat.{◌+◌, ◌-◌}
use Rattle.rules_tables.proofs.Walks.{Reached}
use Rattle.rules_tables.proofs.covers_all.Given as goal

abbrev pub invariant-loop-i : goal.invariant-loop-i
invariant-loop-i l = Reached l.chunks.len l.chunks.words.now l.regions.len l.regions.words.now l.i l.j l.from

abbrev pub decreases-loop-i : goal.decreases-loop-i
decreases-loop-i l = (l.chunks.len - l.i) + (l.regions.len - l.j)
