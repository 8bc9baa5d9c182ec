-- `add_slot`: a slot for it, or none.
use mathlib.Core.Path.{sym, ◌∙◌}
use borrow.Author.Tests.{ltb-true, ltb-false}
use Rattle.return_joining.proofs.Rejoined.{slots_full, slot_added}
use Rattle.return_joining.proofs.add_slot.Goals as goal

pub returns-then-not-insert : goal.returns-then-not-insert
returns-then-not-insert c =
    let full = c.if-not-insert.true in
    slots_full c.args.range c.args.t.now (ltb-false _ _ (sym c.insert.ensures.place ∙ full)) (c.insert.ensures.full full)

pub returns : goal.returns
returns c = slot_added c.args.range c.args.t.now (ltb-true _ _ (sym c.insert.ensures.place ∙ c.if-not-insert.false)) c.insert.ensures.slots
