-- The slots of a lent table: its pairs.
use Rattle.std.specs.Prelude.{List}
use Rattle.model.specs.Lists.{Slot}
use Rattle.model.specs.Store.{table_slots}
use Rattle.tables.specs.declared.Table.{Table}

abbrev pub slots : Table → List Slot
slots t = table_slots t.len t.words.now
