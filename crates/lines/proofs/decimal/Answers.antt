-- `decimal`: what is no text, and what `parse` reads of the others.
use Rattle.std.proofs.Common.{ℕ, List, ◌∙◌, sym, subst}
use Rattle.std.specs.Str.Parse.{ParsesUnsigned}
use Rattle.lines.proofs.Digits.{no_text, is_text, parsed}
use Rattle.lines.proofs.decimal.Goals as goal

pub returns-in_err-ok-in-len1-up : goal.returns-in_err-ok-in-len1-up
returns-in_err-ok-in-len1-up c =
    c.from_residual.ensures ∙ no_text _ _ c.args.word.now c.from_utf8.result c.from_utf8.ensures.cases (sym c.ok.ensures.value ∙ c.in_err-ok-in-len1-up.was)

pub returns-in_ok-ok-in-len1-up : goal.returns-in_ok-ok-in-len1-up
returns-in_ok-ok-in-len1-up c =
    let is = is_text _ _ c.args.word.now c.from_utf8.result c.in_ok-ok-in-len1-up.field-0 c.from_utf8.ensures.cases (sym c.in_ok-ok-in-len1-up.was ∙ c.ok.ensures.value) in
    c.ok-in-len1-up.ensures.value
    ∙ parsed c.args.word.now c.parse.result c.if-first-ne43.true (subst (λ (bs : List ℕ). ParsesUnsigned 64 10 bs c.parse.result) is c.parse.ensures.value.0)
