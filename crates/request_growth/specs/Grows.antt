-- What refuses growth. The words in quotes are document 01's.
use Rattle.std.specs.Prelude.{Result, Ok, Err}
use Rattle.std.specs.Prelude.{if◌then◌else◌}
use Rattle.memory_structs.specs.Range.{meets}
use Rattle.memory_structs.specs.declared.range.FrameRange.{FrameRange}
use Rattle.model.specs.Lists.{Lists, entries, any_of}
use Rattle.model.specs.Requests.{no_room_to_grow}
use Rattle.model.specs.declared.refusals.Refusal.{Refusal}
use Rattle.model.specs.declared.refusals.Refusal.TheVariants.{NotFree, MeetsReservedRegion, NoPlace}

-- "If that part meets a general region: 13. If it meets a reserved region: 16", and 18 last; else the part may become a region
unfoldable pub growth_check : FrameRange → Lists → Result (Unit {0}) Refusal
growth_check g l =
    if any_of (meets g) (entries l.general_regions) then Err NotFree else
    if any_of (meets g) (entries l.reserved_regions) then Err MeetsReservedRegion else
    if no_room_to_grow l then Err NoPlace else Ok tt
