-- The frames that a request by address names. The words in quotes are document 01's.
use Rattle.std.specs.Prelude.{ℕ, ◌+◌, ◌-◌, ltb, eqb, Result, Ok, Err}
use Rattle.std.specs.Prelude.{if◌then◌else◌}
use Rattle.memory_structs.specs.Range.{range, top}
use Rattle.memory_structs.specs.declared.range.FrameRange.{FrameRange}
use Rattle.model.specs.declared.refusals.Refusal.{Refusal}
use Rattle.model.specs.declared.refusals.Refusal.TheVariants.{NoFrames, OutOfBounds}

-- "requests 1, 2", before the search may begin
unfoldable pub asked_range : ℕ → ℕ → Result FrameRange Refusal
asked_range f n = if eqb n 0 then Err NoFrames else if ltb top (f + n - 1) then Err OutOfBounds else Ok (range f (f + n - 1))
