-- Boot in the shape of its code. The words in quotes are document 01's.
use Rattle.std.specs.Prelude.{ℕ, List}
use Rattle.std.specs.Prelude.{if◌then◌else◌}
use Rattle.model.specs.Lists.{Lists}
use Rattle.model.specs.Boot as model
use Rattle.model.specs.Calls.{no_entries}
use Rattle.boot_areas.specs.declared.BootArea.{BootArea}
use Rattle.boot_areas.specs.Areas.{extents, any_outside}

-- "Order: 3, 11; boot then 10, 5, 4, 2, 7, 6": the number after 3 and 11
unfoldable pub boot_number : Lists → List BootArea → ℕ
boot_number l xs = if no_entries l then model.refusal (any_outside xs) (extents xs) else 10
