-- `carve`: at each turn the general areas before i are carved.
use Rattle.boot_areas.proofs.Steps.{Carving}
use Rattle.boot_areas.proofs.carve.Given as goal

abbrev pub invariant-loop-i : goal.invariant-loop-i
invariant-loop-i g l = Carving l.reserved (g.M.BootMap.areas l.map) l.initial.pieces.items l.pieces.items l.i
