-- `check_and_add_free_region`: at each turn the areas passed have been carved out. It ends, since the part above an area that starts in
-- the piece has fewer frames.
use Rattle.std.proofs.Common.{◌+◌, ◌-◌}
use Rattle.boot_carving.proofs.Turns.{Turn}
use Rattle.boot_carving.proofs.+check_and_add_free_region.Given as goal

abbrev pub decreases-check_and_add_free_region : goal.decreases-check_and_add_free_region
decreases-check_and_add_free_region l = (l.area.end + 1) - l.area.start

abbrev pub invariant-loop-next : goal.invariant-loop-next
invariant-loop-next l = Turn l.reserved l.fn.area l.initial.pieces.items l.pieces.items l.start l.end l.next-index
