-- What is known of all areas before the first is carved.
use Rattle.std.specs.Prelude.{◌≡◌, List, length, take, ltb}
use Rattle.memory_structs.specs.Range.{is_empty}
use Rattle.model.specs.Lists.{any_of}
use Rattle.boot_areas.specs.declared.BootArea.{BootArea}
use Rattle.boot_areas.specs.declared.Collected.{Collected}
use Rattle.boot_areas.specs.Areas.{reserved_in, any_outside}

-- 5, 4 and 2 are told apart, whichever of them refuses the boot first
pub record Surveys (xs : List BootArea) (c : Collected) : Type 0 where
  pub reserved_are : c.reserved.items ≡ take 32 (reserved_in xs)
  pub more_is : c.any_more ≡ ltb 32 (length (reserved_in xs))
  pub empty_is : c.any_empty ≡ any_of is_empty (reserved_in xs)
  pub outside_is : c.any_outside ≡ any_outside xs
