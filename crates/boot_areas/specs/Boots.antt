-- What each form of a boot map keeps: its areas are those of a boot call, and the ends of those that 2 lets pass lie at or below the top.
use Rattle.std.specs.Prelude.{ℕ, ◌≡◌, false, List}
use Rattle.memory_structs.specs.Range.{above_top}
use Rattle.model.specs.Lists.{Lists, any_of}
use Rattle.model.specs.Boot.{refusal, ranges}
use Rattle.model.specs.Calls.{Call, boot_call, boot_bytes_call, answer, boot, short_buffer}
use Rattle.boot_areas.specs.declared.AreaUnit.{AreaUnit}
use Rattle.boot_areas.specs.declared.AreaUnit.TheVariants.{Frames, Bytes}
use Rattle.boot_areas.specs.declared.BootArea.{BootArea}
use Rattle.boot_areas.specs.Areas.{areas_in, byte_areas_in, extents, any_outside}

-- a boot of areas as words: "start, end and kind", or "start address, byte size and kind"
unfoldable pub boot_call_of : AreaUnit → List ℕ → Call
boot_call_of Frames ws = boot_call (areas_in ws)
boot_call_of Bytes ws = boot_bytes_call (byte_areas_in ws)

-- the call is a boot of these areas
pub record IsBoot (c : Call) (xs : List BootArea) : Type 0 where
  pub answers : (l : Lists) → answer c l ≡ boot (refusal (any_outside xs) (extents xs)) (extents xs) l
  pub no_buffer : short_buffer c ≡ false

-- areas of which 2 refuses none end at or below the top
abbrev pub Bounded : List BootArea → Type 0
Bounded xs = any_outside xs ≡ false → any_of above_top (ranges (extents xs)) ≡ false
