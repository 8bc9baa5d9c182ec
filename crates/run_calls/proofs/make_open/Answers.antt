-- `make_open`: refused, or made.
use mathlib.Core.Path.{sym, ap, subst, ◌∙◌}
use Rattle.model.specs.Lists.{Lists}
use Rattle.model.specs.declared.Answer.{Answer}
use Rattle.lists.specs.Whole.{lists_in, handed_with}
use Rattle.query_core.specs.Listed.{Listed}
use Rattle.run_calls.specs.Made.{refused}
use Rattle.run_calls.proofs.Making.{goes_ruled, goes_long_held, held_made}
use Rattle.run_calls.proofs.make_open.Goals as goal

pub returns-in-Err : goal.returns-in-Err
returns-in-Err c = refused c.in-Err.refusal (sym c.check_call.ensures ∙ c.in-Err.is) (c.answered.ensures ∙ ap (λ (x : Answer). handed_with x c.args.opened.header) c.from.ensures)

pub operate-requires : goal.operate-requires
operate-requires c = goes_ruled c.args.call c.args.opened.tested c.args.held.now c.check_call.ensures c.in_default.is c.args.slots.now c.args.words.now c.requires

pub operate-requires-in-Return : goal.operate-requires-in-Return
operate-requires-in-Return c = goes_ruled c.args.call c.args.opened.tested c.args.held.now c.check_call.ensures c.in_default.is c.args.slots.now c.args.words.now c.requires

pub lists_of-lists-requires : goal.lists_of-lists-requires
lists_of-lists-requires c = goes_ruled c.args.call c.args.opened.tested c.args.held.now c.check_call.ensures c.in_default.is c.args.slots.now c.args.words.now c.requires

pub lists_of-lists-requires-in-FreeTotal : goal.lists_of-lists-requires-in-FreeTotal
lists_of-lists-requires-in-FreeTotal c = goes_ruled c.args.call c.args.opened.tested c.args.held.now c.check_call.ensures c.in_default.is c.args.slots.now c.args.words.now c.requires

pub lists_of-lists-requires-in-HeldList : goal.lists_of-lists-requires-in-HeldList
lists_of-lists-requires-in-HeldList c = goes_ruled c.args.call c.args.opened.tested c.args.held.now c.check_call.ensures c.in_default.is c.args.slots.now c.args.words.now c.requires

pub held_list-requires : goal.held_list-requires
held_list-requires c = goes_long_held c.args.call c.args.opened.tested c.args.held.now c.check_call.ensures c.in_default.is c.in-HeldList.is

pub returns-in-HeldList : goal.returns-in-HeldList
returns-in-HeldList c = held_made c.args.call c.args.opened.tested c.args.held.now c.check_call.ensures c.in_default.is c.requires c.answered-in-HeldList.ensures c.in-HeldList.is
    (let known = c.lists_of-lists-in-HeldList.ensures in subst (λ (l : Lists). Listed l c.args.held.now c.held_list.result c.held_list.new.buffer) (λ i. lists_in (known.header i) (known.entries i)) c.held_list.ensures)
