-- What the lists to read are: the slots of one, and all four.
use Rattle.std.specs.Prelude.{List}
use Rattle.model.specs.Lists.{Lists, Slot}
use Rattle.lists.specs.declared.list.List.{List as Lent}
use Rattle.lists.specs.declared.four_lists.FourLists.{FourLists}
use Rattle.lists.specs.Part.{part_slots}
use Rattle.lists.specs.Whole.{lists_in}

abbrev pub list_slots : Lent → List Slot
list_slots l = part_slots l.part l.words.now

abbrev pub lists_of : FourLists → Lists
lists_of l = lists_in l.header l.entries.now
