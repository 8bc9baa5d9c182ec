-- `count_frames`: 1, 14, or the beginning of the chunk that was found.
use Prim.Native.Nat.{◌<◌}
use native.Mathlib.Omega.{arith}
use mathlib.Core.Path.{◌≡◌, refl, sym, ap, ◌∙◌}
use mathlib.Core.List.{List}
use lib.ListN.{length}
use Rattle.std.specs.Prelude.{None, Some}
use Rattle.model.specs.Lists.{Slot, range_at}
use Rattle.model.specs.Requests.{large_enough}
use Rattle.lists.specs.declared.header.WhichList.TheVariants.{GeneralFree}
use Rattle.lists.specs.Whole.{lists_in, slots_at}
use Rattle.lists.proofs.Whole.{tidy_list, does_as, does_refuse}
use Rattle.request_search.specs.Searches.{one_chunk}
use Rattle.requests.proofs.Counted.{count_none, count_on, no_chunk, place_taken, beginning_chosen, beginning_low}
use Rattle.requests.proofs.by_count.count_frames.Goals as goal

pub returns-then-num_frames-eq0 : goal.returns-then-num_frames-eq0
returns-then-num_frames-eq0 c = does_refuse c.args.h c.args.lists.now c.requires 1 _ (count_none _ _ c.if-num_frames-eq0.true)

pub returns-in_default : goal.returns-in_default
unfolding lists_in slots_at
returns-in_default c =
    let none : large_enough c.args.h.sorted c.args.num_frames (lists_in c.args.h c.args.lists.now).general_free ≡ None = (λ i. large_enough (sym c.list-chunks.ensures.part i).sorted c.args.num_frames (sym c.list-chunks.ensures.list i)) ∙ sym c.find_large.ensures ∙ c.in_default.is in
    does_refuse c.args.h c.args.lists.now c.requires 14 _
    (count_on c.args.num_frames (lists_in c.args.h c.args.lists.now) c.if-num_frames-eq0.false _ none ∙ no_chunk c.args.num_frames (lists_in c.args.h c.args.lists.now))

pub entry-requires : goal.entry-requires
unfolding lists_in slots_at
entry-requires c =
    let same = c.list-chunks.ensures.list in
    let found : large_enough c.args.h.sorted c.args.num_frames (lists_in c.args.h c.args.lists.now).general_free ≡ Some c.in-Some.i = (λ i. large_enough (sym c.list-chunks.ensures.part i).sorted c.args.num_frames (sym c.list-chunks.ensures.list i)) ∙ sym c.find_large.ensures ∙ c.in-Some.is in
    let some : 0 < c.args.num_frames = omega (arith, c.if-num_frames-eq0.false) in
    omega (arith, (beginning_chosen c.args.h.sorted (lists_in c.args.h c.args.lists.now).general_free c.args.num_frames c.in-Some.i some found _ refl).in_list, ap (λ (x : List Slot). length x) same)

pub overflow_add-end : goal.overflow_add-end
unfolding lists_in slots_at
overflow_add-end c =
    let same = c.list-chunks.ensures.list in
    let found : large_enough c.args.h.sorted c.args.num_frames (lists_in c.args.h c.args.lists.now).general_free ≡ Some c.in-Some.i = (λ i. large_enough (sym c.list-chunks.ensures.part i).sorted c.args.num_frames (sym c.list-chunks.ensures.list i)) ∙ sym c.find_large.ensures ∙ c.in-Some.is in
    let some : 0 < c.args.num_frames = omega (arith, c.if-num_frames-eq0.false) in
    let chunk : c.one-chosen.result ≡ one_chunk c.in-Some.i (range_at (lists_in c.args.h c.args.lists.now).general_free c.in-Some.i) = c.one-chosen.ensures ∙ ap (one_chunk c.in-Some.i) (c.entry.ensures ∙ ap (λ (x : List Slot). range_at x c.in-Some.i) same) in
    let tidied = tidy_list (lists_in c.args.h c.args.lists.now) c.requires.keeps GeneralFree in
    omega (arith, beginning_low c.args.h.sorted (lists_in c.args.h c.args.lists.now).general_free c.args.num_frames c.in-Some.i some found c.one-chosen.result chunk tidied)

pub take_in-requires-clause-chooses : goal.take_in-requires-clause-chooses
unfolding lists_in slots_at
take_in-requires-clause-chooses c =
    let same = c.list-chunks.ensures.list in
    let found : large_enough c.args.h.sorted c.args.num_frames (lists_in c.args.h c.args.lists.now).general_free ≡ Some c.in-Some.i = (λ i. large_enough (sym c.list-chunks.ensures.part i).sorted c.args.num_frames (sym c.list-chunks.ensures.list i)) ∙ sym c.find_large.ensures ∙ c.in-Some.is in
    let some : 0 < c.args.num_frames = omega (arith, c.if-num_frames-eq0.false) in
    let chunk : c.one-chosen.result ≡ one_chunk c.in-Some.i (range_at (lists_in c.args.h c.args.lists.now).general_free c.in-Some.i) = c.one-chosen.ensures ∙ ap (one_chunk c.in-Some.i) (c.entry.ensures ∙ ap (λ (x : List Slot). range_at x c.in-Some.i) same) in
    beginning_chosen c.args.h.sorted (lists_in c.args.h c.args.lists.now).general_free c.args.num_frames c.in-Some.i some found c.one-chosen.result chunk

pub returns : goal.returns
unfolding lists_in slots_at
returns c =
    let same = c.list-chunks.ensures.list in
    let found : large_enough c.args.h.sorted c.args.num_frames (lists_in c.args.h c.args.lists.now).general_free ≡ Some c.in-Some.i = (λ i. large_enough (sym c.list-chunks.ensures.part i).sorted c.args.num_frames (sym c.list-chunks.ensures.list i)) ∙ sym c.find_large.ensures ∙ c.in-Some.is in
    let some : 0 < c.args.num_frames = omega (arith, c.if-num_frames-eq0.false) in
    let chunk : c.one-chosen.result ≡ one_chunk c.in-Some.i (range_at (lists_in c.args.h c.args.lists.now).general_free c.in-Some.i) = c.one-chosen.ensures ∙ ap (one_chunk c.in-Some.i) (c.entry.ensures ∙ ap (λ (x : List Slot). range_at x c.in-Some.i) same) in
    does_as
    (count_on c.args.num_frames (lists_in c.args.h c.args.lists.now) c.if-num_frames-eq0.false _ found ∙ place_taken (lists_in c.args.h c.args.lists.now) c.args.num_frames c.in-Some.i c.one-chosen.result _ some chunk refl)
    c.take_in.ensures
