-- `general_frames_at`: 1, 2, or by what the search in the general list finds.
use Rattle.std.proofs.Common.{rules}
use mathlib.Core.Path.{◌≡◌, sym, ◌∙◌}
use Rattle.std.specs.Prelude.{Err}
use Rattle.lists.specs.Whole.{lists_in, slots_at}
use Rattle.request_grants.proofs.Chosen.{search_chooses}
use Rattle.lists.proofs.Whole.{does_as}
use Rattle.requests.proofs.Asked.{some_frames, general_refused, general_on}
use Rattle.requests.proofs.Searched.{said_chunks, only_chunks, only_refused}
use Rattle.requests.proofs.by_address.general_frames_at.Goals as goal

pub returns-in_err-asked : goal.returns-in_err-asked
returns-in_err-asked c =
    let e : c.from_residual.result ≡ Err c.in_err-asked.field-0.0 = search rules in
    rw e (general_refused c.args.frame c.args.num_frames c.args.h c.args.lists.now c.requires _ (sym c.asked_range.ensures ∙ c.in_err-asked.was))

pub returns-in_err-chosen : goal.returns-in_err-chosen
unfolding lists_in slots_at
returns-in_err-chosen c =
    let e : c.from_residual-in_err-chosen.result ≡ Err c.in_err-chosen.field-0.0 = search rules in
    rw e (does_as (general_on c.args.frame c.args.num_frames (lists_in c.args.h c.args.lists.now) _ (sym c.asked_range.ensures ∙ c.in_ok-asked.was)) (only_refused c.args.h c.args.lists.now c.requires c.in_ok-asked.asked _ _ (sym c.in_err-chosen.was ∙ c.find_in.ensures)))

pub take_in-requires-clause-chooses : goal.take_in-requires-clause-chooses
unfolding lists_in slots_at
take_in-requires-clause-chooses c =
    search_chooses c.args.h.sorted (lists_in c.args.h c.args.lists.now).general_free c.in_ok-chosen.chosen c.in_ok-asked.asked (some_frames c.args.frame c.args.num_frames _ (sym c.asked_range.ensures ∙ c.in_ok-asked.was)) (said_chunks _ _ (sym c.in_ok-chosen.was ∙ c.find_in.ensures))

pub returns : goal.returns
unfolding lists_in slots_at
returns c =
    does_as (general_on c.args.frame c.args.num_frames (lists_in c.args.h c.args.lists.now) _ (sym c.asked_range.ensures ∙ c.in_ok-asked.was) ∙ only_chunks (lists_in c.args.h c.args.lists.now) c.in_ok-asked.asked _ (sym c.in_ok-chosen.was ∙ c.find_in.ensures)) c.take_in.ensures
