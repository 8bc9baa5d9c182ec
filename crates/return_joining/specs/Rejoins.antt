-- A return to one list. The words in quotes are document 01's.
use Rattle.std.specs.Prelude.{ℕ, ◌≡◌, Bool, true, false, List, Option, Some, None}
use Rattle.memory_structs.specs.declared.range.FrameRange.{FrameRange}
use Rattle.model.specs.Lists.{Slot}
use Rattle.model.specs.Returns.{given, no_place}
use Rattle.lists.specs.Part.{Stored}

-- 18: a list without a place for the range stays as it is; else its part stores what the model says, and its length is answered
abbrev pub GoesBack : Bool → FrameRange → List Slot → List ℕ → Option ℕ → List ℕ → Type 0
GoesBack sorted r s before None after = (no_place sorted r s ≡ true) × (after ≡ before)
GoesBack sorted r s before (Some n) after = (no_place sorted r s ≡ false) × Stored sorted (given sorted r s) n after
