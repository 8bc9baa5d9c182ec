-- `collect_area`: an area that is general, and one that is reserved, for which there is a place or none.
use Rattle.std.proofs.Common.{refl}
use Rattle.boot_areas.proofs.Surveyed.{general_more, reserved_more, reserved_full}
use Rattle.boot_areas.proofs.collect_area.Goals as goal

pub returns-in-General : goal.returns-in-General
returns-in-General c = λ xs s. general_more xs _ _ _ s refl c.in-General.is refl refl refl

pub returns-in-Err : goal.returns-in-Err
returns-in-Err c = λ xs s. reserved_full xs _ c.args.seen.now _ s refl c.in-Reserved.is (rw c.is_empty.ensures refl) c.in-Err.ensures.full c.in-Err.ensures.err refl

pub returns-in_default : goal.returns-in_default
returns-in_default c = λ xs s. reserved_more xs _ c.args.seen.now _ s refl c.in-Reserved.is (rw c.is_empty.ensures refl) c.in_default.ensures.room c.in_default.ensures.ok refl
