-- `kind_of_range`: refused by 3 or 11.
use mathlib.Core.Path.{refl}
use Rattle.model.specs.Calls.{short_buffer}
use Rattle.queries.proofs.Asked.{answers_refused}
use Rattle.queries.proofs.kind_of_range.Goals as goal

pub returns-in-Err : goal.returns-in-Err
unfolding short_buffer
returns-in-Err c = answers_refused _ _ _ refl _ c.in-Err.ensures.err c.from.ensures
