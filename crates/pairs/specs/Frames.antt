-- How many frames of a range a list of ranges has.
use Rattle.std.specs.Prelude.{ℕ, ◌+◌, List, [], ◌∷◌}
use Rattle.memory_structs.specs.Range.{size, common}
use Rattle.memory_structs.specs.declared.range.FrameRange.{FrameRange}

-- added up over the ranges
unfoldable pub frames_in : FrameRange → List FrameRange → ℕ
frames_in r [] = 0
frames_in r (x ∷ xs) = size (common r x) + frames_in r xs
