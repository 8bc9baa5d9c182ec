-- `operate`: on the entries of the form.
use Rattle.model.specs.Calls.{answer}
use Rattle.lists.proofs.Lending.{ruled_words, ruled_slots, does_words, does_slots}
use Rattle.calls.specs.Operations.{operation_call}
use Rattle.calls.proofs.operate.Goals as goal

pub on_entries-requires : goal.on_entries-requires
on_entries-requires c = ruled_words c.args.h c.args.slots.now c.args.words.now c.if-h.true c.requires

pub returns-then-h : goal.returns-then-h
returns-then-h c = does_words c.args.h c.args.slots.now c.args.words.now (answer (operation_call c.args.operation)) _ c.if-h.true c.on_entries.ensures

pub on_entries-requires-2 : goal.on_entries-requires-2
on_entries-requires-2 c = ruled_slots c.args.h c.args.slots.now c.args.words.now c.if-h.false c.requires

pub returns : goal.returns
returns c = does_slots c.args.h c.args.slots.now c.args.words.now (answer (operation_call c.args.operation)) _ c.if-h.false c.on_entries-2.ensures
