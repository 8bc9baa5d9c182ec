-- `carve`: one area more is carved.
use Rattle.std.proofs.Common.{arith}
use Rattle.boot_areas.proofs.Steps.{carve_reserved, carve_general}
use Rattle.boot_areas.proofs.carve.Goals as goal
use Rattle.boot_areas.proofs.carve.Goals.{in-General+in_ok-check_and_add_free_region-in-General, in-Reserved}

pub loop-i-preserved : goal.loop-i-preserved
loop-i-preserved g c =
    elim c.match-area.branch [
      | in-General+in_ok-check_and_add_free_region-in-General w ↦
          rw w.pieces-is (carve_general _ _ (omega arith) _ c.area_at-area.ensures _ _ _ c.loop-i.invariant w.in-General.is _ w.in_ok-check_and_add_free_region-in-General.ensures.ok)
      | in-Reserved w ↦ rw w.pieces-is (carve_reserved _ _ (omega arith) _ c.area_at-area.ensures _ _ _ c.loop-i.invariant w.in-Reserved.is)
    ]
