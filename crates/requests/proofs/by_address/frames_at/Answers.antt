-- `frames_at`: 1, 2, or by what the search in the reserved list finds.
use Rattle.std.proofs.Common.{rules}
use mathlib.Core.Path.{◌≡◌, sym, ap, ◌∙◌}
use Rattle.std.specs.Prelude.{Err}
use Rattle.model.specs.Requests.{missing}
use Rattle.model.specs.declared.refusals.Refusal.{Refusal}
use Rattle.lists.specs.Whole.{lists_in, slots_at}
use Rattle.request_grants.proofs.Chosen.{search_chooses}
use Rattle.lists.specs.declared.header.WhichList.TheVariants.{ReservedFree}
use Rattle.lists.proofs.Whole.{tidy_list, does_refuse, does_as}
use Rattle.requests.proofs.Asked.{some_frames, address_refused, address_on}
use Rattle.requests.proofs.Searched.{said_not, said_missing, said_short, said_chunks, missing_count, reserved_not, reserved_missing, reserved_short, reserved_chunks}
use Rattle.requests.proofs.by_address.frames_at.Goals as goal

pub returns-in_err-asked : goal.returns-in_err-asked
returns-in_err-asked c =
    let e : c.from_residual.result ≡ Err c.in_err-asked.field-0.0 = search rules in
    rw e (address_refused c.args.frame c.args.num_frames c.args.h c.args.lists.now c.requires _ (sym c.asked_range.ensures ∙ c.in_err-asked.was))

pub take_in-requires-clause-chooses : goal.take_in-requires-clause-chooses
unfolding lists_in slots_at
take_in-requires-clause-chooses c =
    search_chooses c.args.h.sorted (lists_in c.args.h c.args.lists.now).reserved_free c.in-Ok.chosen c.in_ok-asked.asked (some_frames c.args.frame c.args.num_frames _ (sym c.asked_range.ensures ∙ c.in_ok-asked.was)) (said_chunks c.in-Ok.chosen _ (sym c.in-Ok.is ∙ c.find_in.ensures))

pub grow_tail-requires : goal.grow_tail-requires
unfolding lists_in slots_at
grow_tail-requires c =
    let lost = said_missing c.in-Err-Missing.frame _ _ (ap (λ (x : Refusal). Err x) (sym c.in-Err-Missing.field-0-is) ∙ sym c.in-Err-Missing.is ∙ c.find_in.ensures) in
    let tail = missing_count c.args.h.sorted c.in_ok-asked.asked (lists_in c.args.h c.args.lists.now).reserved_free c.in-Err-Missing.frame _ (tidy_list (lists_in c.args.h c.args.lists.now) c.requires.keeps ReservedFree) lost in record {
      ruled = c.requires;
      start_le_end = some_frames c.args.frame c.args.num_frames _ (sym c.asked_range.ensures ∙ c.in_ok-asked.was);
      lists_value = lost ∙ ap (missing c.in-Err-Missing.frame) tail.0;
    }

pub returns-in-Ok : goal.returns-in-Ok
unfolding lists_in slots_at
returns-in-Ok c =
    does_as (address_on c.args.frame c.args.num_frames (lists_in c.args.h c.args.lists.now) _ (sym c.asked_range.ensures ∙ c.in_ok-asked.was) ∙ reserved_chunks (lists_in c.args.h c.args.lists.now) c.in_ok-asked.asked c.in-Ok.chosen (said_chunks c.in-Ok.chosen _ (sym c.in-Ok.is ∙ c.find_in.ensures))) c.take_in.ensures

pub returns-in-Err-NotFound : goal.returns-in-Err-NotFound
unfolding lists_in slots_at
returns-in-Err-NotFound c =
    does_as (address_on c.args.frame c.args.num_frames (lists_in c.args.h c.args.lists.now) _ (sym c.asked_range.ensures ∙ c.in_ok-asked.was) ∙ reserved_not (lists_in c.args.h c.args.lists.now) c.in_ok-asked.asked (said_not _ (ap (λ (x : Refusal). Err x) (sym c.in-Err-NotFound.field-0-is) ∙ sym c.in-Err-NotFound.is ∙ c.find_in.ensures))) c.in_general_list.ensures

pub returns-in-Err-Missing : goal.returns-in-Err-Missing
unfolding lists_in slots_at
returns-in-Err-Missing c =
    let lost = said_missing c.in-Err-Missing.frame _ _ (ap (λ (x : Refusal). Err x) (sym c.in-Err-Missing.field-0-is) ∙ sym c.in-Err-Missing.is ∙ c.find_in.ensures) in
    let tail = missing_count c.args.h.sorted c.in_ok-asked.asked (lists_in c.args.h c.args.lists.now).reserved_free c.in-Err-Missing.frame _ (tidy_list (lists_in c.args.h c.args.lists.now) c.requires.keeps ReservedFree) lost in
    does_as (address_on c.args.frame c.args.num_frames (lists_in c.args.h c.args.lists.now) _ (sym c.asked_range.ensures ∙ c.in_ok-asked.was) ∙ reserved_missing (lists_in c.args.h c.args.lists.now) c.in_ok-asked.asked _ _ lost tail.1) c.grow_tail.ensures

pub returns-in-Err : goal.returns-in-Err
unfolding lists_in slots_at
returns-in-Err c =
    let short = said_short c.in-Err.refusal _ (sym c.in-Err.is ∙ c.find_in.ensures) (λ e. search rules) (λ a n e. search rules) in
    rw short.0
    (does_refuse c.args.h c.args.lists.now c.requires 17 _
    (address_on c.args.frame c.args.num_frames (lists_in c.args.h c.args.lists.now) _ (sym c.asked_range.ensures ∙ c.in_ok-asked.was) ∙ reserved_short (lists_in c.args.h c.args.lists.now) c.in_ok-asked.asked short.1))
