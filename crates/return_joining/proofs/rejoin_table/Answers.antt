-- `rejoin_table`: a pair above, else one below.
use mathlib.Core.Path.{sym, ap, ◌∙◌}
use Rattle.memory_structs.specs.Range.{range}
use Rattle.memory_structs.specs.declared.range.FrameRange.{FrameRange}
use Rattle.tables.proofs.Search.{range_at_holds}
use Rattle.return_joining.proofs.Rejoined.{found_pair, found_above, found_under, joined}
use Rattle.return_joining.proofs.rejoin_table.Goals as goal

pub returns-in-Some : goal.returns-in-Some
returns-in-Some c =
    let above = sym c.in-Some.is ∙ c.starting_at.ensures in
    let a = c.args in
    joined _ _ _ c.requires.table _ _ (found_above a.range _ c.in-Some.i above)
    _ (ap (λ (y : FrameRange). range a.range.start y.end) (c.entry.ensures ∙ range_at_holds a.len c.in-Some.i a.t.now (found_pair _ _ _ _ above))) _ c.replace_at.ensures

pub returns-in-Some-ending_below : goal.returns-in-Some-ending_below
returns-in-Some-ending_below c =
    let under = sym c.in-Some-ending_below.is ∙ c.ending_below.ensures in
    let a = c.args in
    joined _ _ _ c.requires.table _ _ (found_under a.range _ (sym c.in_default.is ∙ c.starting_at.ensures) c.in-Some-ending_below.i under)
    _ (ap (λ (y : FrameRange). range y.start a.range.end) (c.entry-in-Some-ending_below.ensures ∙ range_at_holds a.len c.in-Some-ending_below.i a.t.now (found_pair _ _ _ _ under))) _ c.replace_at-in-Some-ending_below.ensures
