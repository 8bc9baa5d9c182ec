-- `check_and_add_free_region`: an area starts in the piece, above it or below it.
use Rattle.boot_carving.proofs.Turns.{area_below, area_above, part_above}
use Rattle.boot_carving.proofs.+check_and_add_free_region.Goals as goal
use Rattle.boot_carving.proofs.+check_and_add_free_region.Goals.{then-start-next+then-next-end+else-end-next+in_ok-check_and_add_free_region, else-start-next, else-start-next-via-then-start-next+else-next-end, else-start-next-via-else-start-next}

pub loop-next-preserved : goal.loop-next-preserved
loop-next-preserved t c =
    let e = c.past-start.ensures in
    rw e (elim c.if-start-next.branch [
      | then-start-next+then-next-end+else-end-next+in_ok-check_and_add_free_region w ↦
          rw (w.pieces-is, w.end-is) (part_above _ c.requires _ _ _ _ _ _ c.loop-next.invariant c.loop-next-test.true (rw (← e) w.if-start-next.true) w.if-next-end.true w.if-end-next.false _ (rw w.new-above.ensures at w.in_ok-check_and_add_free_region.ensures.ok))
      | else-start-next w ↦ rw (w.pieces-is, w.end-is) (elim w.else-start-next.branch [
        | else-start-next-via-then-start-next+else-next-end v ↦
            area_above _ c.requires _ _ _ _ _ _ c.loop-next.invariant c.loop-next-test.true (rw (← e) v.if-start-next.true) v.if-next-end.false
        | else-start-next-via-else-start-next v ↦
            area_below _ c.requires _ _ _ _ _ _ c.loop-next.invariant c.loop-next-test.true (rw (← e) v.if-start-next.false)
      ])
    ])
