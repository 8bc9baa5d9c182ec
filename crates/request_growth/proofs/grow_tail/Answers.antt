-- `grow_tail`: refused, or the last chunk is cut and the tail is a new region.
use Rattle.std.proofs.Common.{rules}
use mathlib.Core.Path.{◌≡◌, sym, ap, ◌∙◌}
use mathlib.Core.List.{List}
use native.Mathlib.Omega.{arith}
use Prim.Native.Nat.{◌-◌}
use lib.ListN.{length}
use Rattle.model.specs.Lists.{Slot, entries, range_at}
use Rattle.request_search.specs.Searches.{one_chunk}
use Rattle.std.specs.Prelude.{Err}
use Rattle.memory_structs.specs.Range.{range}
use Rattle.lists.specs.Whole.{lists_in, slots_at}
use Rattle.request_growth.proofs.Tail.{LastChunk}
use Rattle.request_growth.proofs.Growing.{Open, open_growth, growth_refused}
use Rattle.request_growth.proofs.Cut.{tail_filled, some_chunk, has_last, last_is, cut_chooses, cut_fits, cut_ruled, cut_room, tail_done}
use Rattle.request_growth.proofs.grow_tail.Goals as goal

pub check_growth-requires : goal.check_growth-requires
unfolding lists_in
check_growth-requires c = tail_filled c.args.h c.args.lists.now c.requires.ruled c.args.from c.args.asked c.requires.lists_value

pub returns-in_err-check_growth : goal.returns-in_err-check_growth
returns-in_err-check_growth c =
    let e : c.from_residual.result ≡ Err c.in_err-check_growth.field-0.0 = search rules in
    rw e (growth_refused c.args.h c.args.lists.now c.requires.ruled (range c.args.from c.args.asked.end) c.args.asked _ (sym c.check_growth.ensures ∙ c.in_err-check_growth.was))

pub overflow_sub-last : goal.overflow_sub-last
unfolding lists_in slots_at
overflow_sub-last c = some_chunk c.args.h c.args.lists.now c.requires.ruled c.args.from c.args.asked c.requires.lists_value _ (c.count-last.ensures ∙ ap (λ (s : List Slot). length (entries s)) c.list-chunks.ensures.list)

pub entry-requires : goal.entry-requires
unfolding lists_in slots_at
entry-requires c = omega (arith, ap length c.list-chunks.ensures.list, has_last c.args.h c.args.lists.now c.requires.ruled c.args.from c.args.asked c.requires.lists_value _ (c.count-last.ensures ∙ ap (λ (s : List Slot). length (entries s)) c.list-chunks.ensures.list))

pub take_out-cut-requires : goal.take_out-cut-requires
unfolding lists_in slots_at
take_out-cut-requires c =
    let last : LastChunk (lists_in c.args.h c.args.lists.now).reserved_free c.one-chosen.result = last_is c.args.h c.args.lists.now c.requires.ruled c.args.from c.args.asked c.requires.lists_value _ (c.count-last.ensures ∙ ap (λ (s : List Slot). length (entries s)) c.list-chunks.ensures.list) _ (c.one-chosen.ensures ∙ ap (one_chunk (c.count-last.result - 1)) (c.entry.ensures ∙ ap (λ (s : List Slot). range_at s (c.count-last.result - 1)) c.list-chunks.ensures.list)) in record {
      ruled = c.requires.ruled;
      chooses = cut_chooses c.args.h c.args.lists.now c.requires.ruled c.args.from c.args.asked c.requires.lists_value _ last;
      lists_bound = cut_fits c.args.h c.args.lists.now c.requires.ruled c.args.from c.args.asked c.requires.lists_value _ last;
    }

pub add_reserved_region_to_lists-grown-requires : goal.add_reserved_region_to_lists-grown-requires
unfolding lists_in slots_at
add_reserved_region_to_lists-grown-requires c =
    let may-grow : Open (lists_in c.args.h c.args.lists.now) (range c.args.from c.args.asked.end) = open_growth _ _ (sym c.check_growth.ensures ∙ c.in_ok-check_growth.was) in
    let last : LastChunk (lists_in c.args.h c.args.lists.now).reserved_free c.one-chosen.result = last_is c.args.h c.args.lists.now c.requires.ruled c.args.from c.args.asked c.requires.lists_value _ (c.count-last.ensures ∙ ap (λ (s : List Slot). length (entries s)) c.list-chunks.ensures.list) _ (c.one-chosen.ensures ∙ ap (one_chunk (c.count-last.result - 1)) (c.entry.ensures ∙ ap (λ (s : List Slot). range_at s (c.count-last.result - 1)) c.list-chunks.ensures.list)) in record {
      ruled = cut_ruled c.args.h c.args.lists.now c.requires.ruled c.args.from c.args.asked c.requires.lists_value _ last c.take_out-cut.ensures;
      lists_len_bound = cut_room c.args.h c.args.lists.now c.requires.ruled c.args.from c.args.asked c.requires.lists_value _ last c.take_out-cut.ensures may-grow;
    }

pub returns : goal.returns
unfolding lists_in slots_at
returns c =
    let may-grow : Open (lists_in c.args.h c.args.lists.now) (range c.args.from c.args.asked.end) = open_growth _ _ (sym c.check_growth.ensures ∙ c.in_ok-check_growth.was) in
    let last : LastChunk (lists_in c.args.h c.args.lists.now).reserved_free c.one-chosen.result = last_is c.args.h c.args.lists.now c.requires.ruled c.args.from c.args.asked c.requires.lists_value _ (c.count-last.ensures ∙ ap (λ (s : List Slot). length (entries s)) c.list-chunks.ensures.list) _ (c.one-chosen.ensures ∙ ap (one_chunk (c.count-last.result - 1)) (c.entry.ensures ∙ ap (λ (s : List Slot). range_at s (c.count-last.result - 1)) c.list-chunks.ensures.list)) in
    tail_done c.args.h c.args.lists.now c.requires.ruled c.args.from c.args.asked c.requires.lists_value _ last c.take_out-cut.ensures may-grow c.add_reserved_region_to_lists-grown.ensures _ c.granted.ensures
