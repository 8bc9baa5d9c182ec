-- `likhmout_check`: the number of the test's verdict.
use mathlib.Core.Path.{sym, ap, ◌∙◌}
use Rattle.model.specs.Refusals.{refused_by}
use Rattle.rules.proofs.Numbers.{passed_number}
use Rattle.exports.proofs.rules_check.likhmout_check.Goals as goal

pub returns-in-Ok : goal.returns-in-Ok
returns-in-Ok c = sym (passed_number _ _ (sym c.check.ensures ∙ c.in-Ok.is))

pub returns-in-Err : goal.returns-in-Err
returns-in-Err c = c.number.ensures ∙ sym (ap refused_by c.in-Err.is) ∙ ap refused_by c.check.ensures
