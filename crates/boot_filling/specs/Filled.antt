-- The record after an accepted boot.
use Rattle.std.specs.Prelude.{List}
use Rattle.memory_structs.specs.declared.range.FrameRange.{FrameRange}
use Rattle.model.specs.Boot.{filled_lists}
use Rattle.model.specs.Store.{record_of}
use Rattle.model.specs.declared.FrameAllocator.{FrameAllocator}

-- of these pieces and these reserved areas, as joined
abbrev pub filled_record : List FrameRange → List FrameRange → FrameAllocator
filled_record pieces reserved = record_of (filled_lists pieces reserved)
