-- `held_list`: over the tables, or over the slots in order.
use mathlib.Core.Path.{◌∙◌}
use Rattle.std.proofs.Common.{rules}
use Rattle.query_core.proofs.Forms.{sorted_written, early_written, is_listed}
use Rattle.query_core.proofs.held_list.Goals as goal

pub returns-then-lists : goal.returns-then-lists
returns-then-lists c = let l = c.args.lists in
    is_listed (sorted_written l.header l.entries.now (c.table.ensures.list ∙ c.list-regions.ensures.list) (c.table-then-lists.ensures.list ∙ c.list-chunks.ensures.list) c.write_runs-count.ensures) c.counted.ensures

pub returns : goal.returns
returns c = let l = c.args.lists in
    is_listed (early_written l.header l.entries.now l.ruled c.if-lists.false (search rules) (search rules) c.write_from_pairs-runs.ensures) c.counted-2.ensures
