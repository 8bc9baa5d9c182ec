-- `survey`: no area is surveyed yet.
use Rattle.std.proofs.Common.{refl}
use Rattle.boot_areas.proofs.Surveyed.{none_surveyed}
use Rattle.boot_areas.proofs.survey.Goals as goal

pub loop-i-init : goal.loop-i-init
loop-i-init g c = none_surveyed _ c.new.ensures refl refl refl
