-- The slots of a lent list in early form: its pairs.
use Rattle.std.specs.Prelude.{List}
use Rattle.model.specs.Lists.{Slot}
use Rattle.pairs.specs.declared.Slots.{Slots}
use Rattle.pairs.specs.Pairs.{pair_slots}

abbrev pub early_slots : Slots → List Slot
early_slots s = pair_slots 32 s.words.now
