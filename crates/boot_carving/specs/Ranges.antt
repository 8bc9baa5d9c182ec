-- The reserved areas that a boot carves out.
use Rattle.std.specs.Prelude.{◌≡◌, true, false, List, leb}
use Rattle.memory_structs.specs.Range.{is_empty, top}
use Rattle.memory_structs.specs.declared.range.FrameRange.{FrameRange}
use Rattle.model.specs.Lists.{any_of, all_of}

-- none is empty (4), and none ends above the top (2)
pub record Carvable (rs : List FrameRange) : Type 0 where
  pub filled : any_of is_empty rs ≡ false
  pub low : all_of (λ r. leb r.end top) rs ≡ true
