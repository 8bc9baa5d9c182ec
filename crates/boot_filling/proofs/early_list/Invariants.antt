-- `early_list`: at each turn the first i ranges are in the first i slots.
use Rattle.std.proofs.Common.{◌≡◌, take}
use Rattle.model.specs.Boot.{early}
use Rattle.model.specs.Store.{early_of}
use Rattle.boot_filling.proofs.early_list.Given as goal

abbrev pub invariant-loop-i : goal.invariant-loop-i
invariant-loop-i l = l.slots ≡ early_of (early (take l.i l.ranges))
