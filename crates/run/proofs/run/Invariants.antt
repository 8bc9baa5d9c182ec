-- `run`: at each turn the calls made so far, and those that are left, are the calls of the list, and the record stands open.
use mathlib.Core.Path.{◌≡◌}
use Prim.Native.Nat.{◌/◌}
use lib.ListN.{length}
use Rattle.run.specs.declared.RunEnd.TheVariants.{Done}
use Rattle.run.proofs.Going.{Going}
use Rattle.run.proofs.run.Given as goal

abbrev pub invariant-loop-made : goal.invariant-loop-made
invariant-loop-made l =
    Going l.areas l.calls l.initial.a l.initial.words l.initial.answers l.initial.held l.opened.tested l.made l.a l.opened.header l.slots l.words l.answers l.held
    × (l.ending ≡ record { made = length l.calls / 3; end = Done })
