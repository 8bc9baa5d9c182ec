-- `close_tested`: the record closed, or as it was.
use mathlib.Core.Path.{sym, ◌∙◌}
use Rattle.run.proofs.Opened.{passed_is, refused_is, passed}
use Rattle.run.proofs.close_tested.Goals as goal

pub close-requires : goal.close-requires
close-requires c = c.requires (passed c.args.opened.tested (sym c.is_ok.ensures.value ∙ c.if-is_ok.true))

pub returns-then-is_ok : goal.returns-then-is_ok
returns-then-is_ok c = c.close.ensures ∙ sym (passed_is c.args.opened.tested (passed c.args.opened.tested (sym c.is_ok.ensures.value ∙ c.if-is_ok.true)) c.args.a.now c.args.opened.header c.args.slots.now)

pub returns-else-is_ok : goal.returns-else-is_ok
returns-else-is_ok c = sym (refused_is c.args.opened.tested (sym c.is_ok.ensures.value ∙ c.if-is_ok.false) c.args.a.now c.args.opened.header c.args.slots.now)
