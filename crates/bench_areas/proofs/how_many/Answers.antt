-- `how_many` counts the areas of the kind.
use Rattle.std.proofs.Common.{rules, tests, ◌∙◌}
use Rattle.std.proofs.lemmas.Iterator.{YieldsList-from_slice}
use Rattle.std.proofs.lemmas.Iterator.Consumers.{YieldsList-at, YieldsList-from_filter, count_from_yields_List}
use Rattle.std.proofs.lemmas.List.Sums.{length-filter}
use Rattle.bench_areas.specs.Areas.{same_kind, how_many}
use Rattle.bench_areas.proofs.how_many.Goals as goal

pub returns : goal.returns
unfolding how_many same_kind
returns c =
    let areas = c.args.areas.now in
    count_from_yields_List c.filter.result c.count.result c.count.ensures.ran
    (YieldsList-from_filter _ (λ a. same_kind a.kind c.args.kind) (YieldsList-at c.filter.ensures.source (YieldsList-from_slice areas c.iter.ensures.rest))
    c.filter.ensures.closure (λ x r q k. search (rules, tests)))
    ∙ length-filter (λ a. same_kind a.kind c.args.kind) areas
