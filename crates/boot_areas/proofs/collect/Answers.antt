-- `collect`: 5, 4 and 2, in this order.
use Rattle.boot_areas.proofs.Surveyed.{five, four, two, all_collected}
use Rattle.boot_areas.proofs.collect.Goals as goal

pub returns-then-seen : goal.returns-then-seen
returns-then-seen g c = five _ _ c.survey-seen.ensures c.if-seen.true

pub returns-then-seen-2 : goal.returns-then-seen-2
returns-then-seen-2 g c = four _ _ c.survey-seen.ensures c.if-seen.false c.if-seen-2.true

pub returns-then-seen-3 : goal.returns-then-seen-3
returns-then-seen-3 g c = two _ _ c.survey-seen.ensures c.if-seen.false c.if-seen-2.false c.if-seen-3.true

pub returns : goal.returns
returns g c = all_collected _ _ c.survey-seen.ensures c.if-seen.false c.if-seen-2.false c.if-seen-3.false
