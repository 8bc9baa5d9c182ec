-- `find_specific_chunk`: the search of the list's form.
use mathlib.Core.Path.{◌≡◌, sym, ap, ◌∙◌}
use mathlib.Core.Bool.{Bool}
use Rattle.memory_structs.specs.Range.{inside}
use Rattle.memory_structs.specs.declared.range.FrameRange.{FrameRange}
use Rattle.std.specs.Prelude.{Some, Ok}
use Rattle.model.specs.Lists.{first_where}
use Rattle.model.specs.Requests.{find, chunks}
use Rattle.lists.specs.Listed.{list_slots}
use Rattle.request_search.specs.declared.Chosen.{Chosen}
use Rattle.request_search.specs.Searches.{answer_of}
use Rattle.request_search.proofs.Early.{first_bound, slot_holds, none_holds}
use Rattle.request_search.proofs.find_specific_chunk.Goals as goal

pub entry-requires : goal.entry-requires
entry-requires c =
    let found : Some c.in-Some.i ≡ first_where (λ r. inside r c.args.asked) (list_slots c.args.list)
    = sym c.in-Some.is ∙ c.first_holding.ensures ∙ ap (first_where (λ r. inside r c.args.asked)) c.slots.ensures.list in
    first_bound c.args.asked _ c.in-Some.i found

pub returns-in-Some : goal.returns-in-Some
unfolding answer_of
returns-in-Some c = let a = c.args in
    let found : Some c.in-Some.i ≡ first_where (λ r. inside r a.asked) (list_slots a.list)
    = sym c.in-Some.is ∙ c.first_holding.ensures ∙ ap (first_where (λ r. inside r a.asked)) c.slots.ensures.list in
    ap (λ (x : Chosen). Ok x) c.one.ensures ∙ ap (λ (x : FrameRange). answer_of (chunks c.in-Some.i 1 x)) c.entry.ensures ∙ slot_holds a.asked _ c.in-Some.i found
    ∙ sym (ap (λ (b : Bool). answer_of (find b a.asked (list_slots a.list))) c.if-list.false)

pub returns-in-None : goal.returns-in-None
returns-in-None c = let a = c.args in
    none_holds a.asked _ (sym c.in-None.is ∙ c.first_holding.ensures ∙ ap (first_where (λ r. inside r a.asked)) c.slots.ensures.list)
    ∙ sym (ap (λ (b : Bool). answer_of (find b a.asked (list_slots a.list))) c.if-list.false)
