-- `table_meets`: by the highest entry at or below the end.
use mathlib.Core.Path.{◌≡◌, sym, ap, ◌∙◌}
use Prim.Native.Nat.{◌<◌}
use lib.Dec.{leb}
use Rattle.memory_structs.specs.declared.range.FrameRange.{FrameRange}
use Rattle.model.specs.Lists.{last_where}
use Rattle.std.specs.Prelude.{None, Some}
use Rattle.model.specs.Store.{table_slots}
use Rattle.tables.proofs.Search.{range_at_holds}
use Rattle.tables.proofs.Touching.{tidy_rising, pair_bound}
use Rattle.lists.proofs.Meeting.{reaches, met_table}
use Rattle.lists.proofs.list.table_meets.Goals as goal

pub highest_at_or_below-requires : goal.highest_at_or_below-requires
highest_at_or_below-requires c = tidy_rising _ c.requires.tidy

pub entry-requires : goal.entry-requires
entry-requires c =
    let found : Some c.in-Some.i ≡ last_where (λ (r : FrameRange). leb r.start c.args.range.end) (table_slots c.args.table.len c.args.table.words.now) = sym c.in-Some.is ∙ c.highest_at_or_below.ensures in
    pair_bound _ _ _ _ found

pub returns-in-Some : goal.returns-in-Some
unfolding reaches
returns-in-Some c =
    let found : Some c.in-Some.i ≡ last_where (λ (r : FrameRange). leb r.start c.args.range.end) (table_slots c.args.table.len c.args.table.words.now) = sym c.in-Some.is ∙ c.highest_at_or_below.ensures in
    let in_table : c.in-Some.i < c.args.table.len = pair_bound _ _ _ _ found in
    let a = c.args in
    ap (λ (r : FrameRange). leb a.range.start r.end) (c.entry.ensures ∙ range_at_holds a.table.len c.in-Some.i a.table.words.now in_table)
    ∙ met_table a.range a.table.len a.table.words.now c.requires.start_le_end c.requires.tidy (Some c.in-Some.i) found

pub returns-in-None : goal.returns-in-None
unfolding reaches
returns-in-None c = let a = c.args in
    met_table a.range a.table.len a.table.words.now c.requires.start_le_end c.requires.tidy None (sym c.in-None.is ∙ c.highest_at_or_below.ensures)
