-- `count`: at each turn n of the first i slots are used.
use mathlib.Core.Path.{◌≡◌}
use Prim.Native.Nat.{◌+◌, ◌≤◌}
use lib.ListN.{length}
use Rattle.pairs.proofs.Turns.{left}
use Rattle.pairs.proofs.Slots.count.Given as goal

abbrev pub invariant-loop-i : goal.invariant-loop-i
invariant-loop-i l = (l.i ≤ 32) × (l.n ≤ l.i) × (length (left 0 l.self.words.now) ≡ l.n + length (left l.i l.self.words.now))
