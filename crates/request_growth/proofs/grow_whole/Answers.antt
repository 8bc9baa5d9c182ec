-- `grow_whole`: refused, or the request is a new region and the free list stays.
use Rattle.std.proofs.Common.{rules}
use mathlib.Core.Path.{◌≡◌, sym, ◌∙◌}
use Rattle.std.specs.Prelude.{Err}
use Rattle.lists.specs.Whole.{lists_in}
use Rattle.request_taking.proofs.Taken.{does_grant}
use Rattle.request_growth.proofs.Growing.{Open, open_growth, growth_refused, room_regions_holds, whole_growth, tidy_chunks}
use Rattle.request_growth.proofs.grow_whole.Goals as goal

pub returns-in_err-check_growth : goal.returns-in_err-check_growth
returns-in_err-check_growth c =
    let e : c.from_residual.result ≡ Err c.in_err-check_growth.field-0.0 = search rules in
    rw e (growth_refused c.args.h c.args.lists.now c.requires.ruled c.args.asked c.args.asked _ (sym c.check_growth.ensures ∙ c.in_err-check_growth.was))

pub add_reserved_region_to_lists-grown-requires-clause-lists_len_bound : goal.add_reserved_region_to_lists-grown-requires-clause-lists_len_bound
unfolding lists_in
add_reserved_region_to_lists-grown-requires-clause-lists_len_bound c =
    let may-grow : Open (lists_in c.args.h c.args.lists.now) c.args.asked = open_growth _ _ (sym c.check_growth.ensures ∙ c.in_ok-check_growth.was) in
    room_regions_holds (lists_in c.args.h c.args.lists.now) may-grow.room

pub returns : goal.returns
unfolding lists_in
returns c =
    let may-grow : Open (lists_in c.args.h c.args.lists.now) c.args.asked = open_growth _ _ (sym c.check_growth.ensures ∙ c.in_ok-check_growth.was) in
    let l = lists_in c.args.h c.args.lists.now in
    does_grant c.args.asked _ c.granted.ensures c.add_reserved_region_to_lists-grown.ensures _
    (whole_growth l c.args.asked (tidy_chunks c.args.h c.args.lists.now c.requires.ruled) c.requires.start_le_end c.requires.lists_value may-grow)
