-- `survey`: at each turn the areas before i are surveyed.
use Rattle.std.proofs.Common.{take}
use Rattle.boot_areas.specs.Surveys.{Surveys}
use Rattle.boot_areas.proofs.survey.Given as goal

abbrev pub invariant-loop-i : goal.invariant-loop-i
invariant-loop-i g l = Surveys (take l.i (g.M.BootMap.areas l.map)) l.seen
