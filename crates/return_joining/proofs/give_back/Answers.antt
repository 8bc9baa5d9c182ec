-- `give_back`: by the form.
use mathlib.Core.Path.{sym, ◌∙◌}
use Rattle.model.specs.Rules.{tidy}
use Rattle.lists.proofs.Forms.{as_table, as_pairs, at_sorted}
use Rattle.return_joining.proofs.Rejoined.{by_table, by_slots}
use Rattle.return_joining.proofs.give_back.Goals as goal

pub rejoin_table-requires : goal.rejoin_table-requires
rejoin_table-requires c = let e = c.if-part.true in record {
  table = as_table c.requires.tidy.part e;
  t_value = sym (at_sorted tidy c.args.part.len c.args.t.now e) ∙ c.requires.tidy.keeps;
  end_le_top = c.requires.end_le_top;
}

pub returns-then-part : goal.returns-then-part
returns-then-part c = let a = c.args in
    by_table a.range a.part.len a.t.now _ _ c.if-part.true c.rejoin_table.ensures

pub add_slot-requires : goal.add_slot-requires
add_slot-requires c = as_pairs c.requires.tidy.part c.if-part.false

pub returns : goal.returns
returns c = let a = c.args in
    by_slots a.range a.part.len a.t.now _ _ c.if-part.false c.add_slot.ensures
