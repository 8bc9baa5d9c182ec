-- `in_general_list`: by what the search in the general list finds.
use Rattle.std.proofs.Common.{rules}
use mathlib.Core.Path.{sym, ap, ◌∙◌}
use Rattle.std.specs.Prelude.{Err}
use Rattle.lists.specs.Whole.{lists_in, slots_at}
use Rattle.model.specs.declared.refusals.Refusal.{Refusal}
use Rattle.request_grants.proofs.Chosen.{search_chooses}
use Rattle.lists.proofs.Whole.{does_as, does_refuse}
use Rattle.requests.proofs.Searched.{said_missing, said_short, said_chunks, general_missing, general_short, general_chunks}
use Rattle.requests.proofs.by_address.in_general_list.Goals as goal

pub take_in-requires-clause-chooses : goal.take_in-requires-clause-chooses
unfolding lists_in slots_at
take_in-requires-clause-chooses c =
    search_chooses c.args.h.sorted (lists_in c.args.h c.args.lists.now).general_free c.in-Ok.chosen c.args.asked c.requires.start_le_end (said_chunks c.in-Ok.chosen _ (sym c.in-Ok.is ∙ c.find_in.ensures))

pub returns-in-Ok : goal.returns-in-Ok
unfolding lists_in slots_at
returns-in-Ok c = does_as (general_chunks (lists_in c.args.h c.args.lists.now) c.args.asked c.in-Ok.chosen (said_chunks c.in-Ok.chosen _ (sym c.in-Ok.is ∙ c.find_in.ensures))) c.take_in.ensures

pub returns-in-Err-Missing : goal.returns-in-Err-Missing
unfolding lists_in slots_at
returns-in-Err-Missing c =
    does_refuse c.args.h c.args.lists.now c.requires.ruled 12 _
    (general_missing (lists_in c.args.h c.args.lists.now) c.args.asked _ _ (said_missing _ _ _ (ap (λ (x : Refusal). Err x) (sym c.in-Err-Missing.field-0-is) ∙ sym c.in-Err-Missing.is ∙ c.find_in.ensures)))

pub returns-in-Err : goal.returns-in-Err
unfolding lists_in slots_at
returns-in-Err c =
    let short = said_short c.in-Err.refusal _ (sym c.in-Err.is ∙ c.find_in.ensures) (λ e. search rules) (λ a n e. search rules) in
    rw short.0 (does_refuse c.args.h c.args.lists.now c.requires.ruled 17 _ (general_short (lists_in c.args.h c.args.lists.now) c.args.asked short.1))
