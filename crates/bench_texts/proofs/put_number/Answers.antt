-- `put_number`: the digits, put as a text.
use Rattle.std.proofs.Common.{◌∙◌, ◌++◌, ap, List, ℕ, rules}
use Rattle.bench_texts.proofs.Decimal.{digits_are}
use Rattle.bench_texts.proofs.put_number.Goals as goal

pub returns : goal.returns
returns g c = c.put_text.ensures ∙ ap (λ (t : List ℕ). c.args.out.now.items ++ t) (c.decimal-len.ensures.digits ∙ digits_are c.args.n c.decimal-len.result (search rules) c.decimal-len.ensures.len)
