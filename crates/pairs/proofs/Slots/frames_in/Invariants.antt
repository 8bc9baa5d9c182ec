-- `frames_in`: at each turn `total` frames of the range are in the first i slots.
use mathlib.Core.Path.{◌≡◌}
use Prim.Native.Nat.{◌+◌, ◌*◌, ◌≤◌}
use Rattle.memory_structs.specs.Range.{top}
use Rattle.pairs.specs.Frames.{frames_in}
use Rattle.pairs.proofs.Turns.{left}
use Rattle.pairs.proofs.Slots.frames_in.Given as goal

abbrev pub invariant-loop-i : goal.invariant-loop-i
invariant-loop-i l = (l.i ≤ 32) × (l.total ≤ l.i * (top + 1)) × (frames_in l.range (left 0 l.self.words.now) ≡ l.total + frames_in l.range (left l.i l.self.words.now))
