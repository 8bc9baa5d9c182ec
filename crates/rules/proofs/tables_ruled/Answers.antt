-- `tables_ruled`: where each list keeps the rules, what is said of two decides.
use mathlib.Core.Path.{sym, ◌∙◌}
use Rattle.rules.specs.Check.{tables_of}
use Rattle.rules.proofs.Early.{all_tidy}
use Rattle.rules.proofs.tables_ruled.Goals as goal

pub returns-then-are_tidy : goal.returns-then-are_tidy
returns-then-are_tidy c = let a = c.args in
    c.tables_agree.ensures ∙ all_tidy (tables_of a.general_free a.reserved_free a.general_regions a.reserved_regions) (sym c.are_tidy.ensures ∙ c.if-are_tidy.true)
