-- `no_room_to_grow`: the regions first, then the early chunks.
use native.Mathlib.Omega.{arith}
use mathlib.Core.Path.{ap, ◌∙◌}
use mathlib.Core.List.{List}
use lib.Dec.{leb}
use lib.ListN.{length}
use Rattle.lists.specs.Listed.{lists_of}
use Rattle.lists.specs.Whole.{lists_in, slots_at}
use Rattle.model.specs.Lists.{Slot, entries, bound}
use Rattle.lists.specs.declared.Part.{Part}
use Rattle.request_growth.proofs.Growing.{room_early}
use Rattle.request_growth.proofs.no_room_to_grow.Goals as goal

pub returns : goal.returns
unfolding lists_in slots_at
returns c =
    ap (leb 32) (c.count-2.ensures ∙ ap (λ (s : List Slot). length (entries s)) c.list.ensures.list)
    ∙ room_early (lists_of c.args.lists)
    (omega (arith, c.if-bound-count.false, c.bound.ensures, ap (λ (p : Part). bound p.sorted) c.list-regions.ensures.part, c.count.ensures, ap (λ (s : List Slot). length (entries s)) c.list-regions.ensures.list))
    c.if-lists.false
