-- `slots_ruled`: the four lists, put in order.
use mathlib.Core.Path.{ap, ◌∙◌}
use Rattle.pairs.specs.Ordered.{in_order}
use Rattle.rules.proofs.Early.{ordered_ruled}
use Rattle.rules.proofs.slots_ruled.Goals as goal

pub returns : goal.returns
returns c =
    c.tables_ruled.ensures
    ∙ ordered_ruled c.args.slots.now (c.sorted_table.ensures.list ∙ ap in_order c.new.ensures) (c.sorted_table-2.ensures.list ∙ ap in_order c.new-2.ensures) (c.sorted_table-3.ensures.list ∙ ap in_order c.new-3.ensures)
    (c.sorted_table-4.ensures.list ∙ ap in_order c.new-4.ensures)
