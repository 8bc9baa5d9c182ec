-- `two_numbers`: the eight bytes of `reserved` make its text.
use Rattle.std.proofs.Common.{◌≡◌, rules, arith}
use Rattle.std.proofs.lemmas.Slice.Eq.{text_from_reads}
use Rattle.lines.specs.Words.{reserved_text}
use Rattle.bench_lines.specs.Commands.{two_numbers}
use Rattle.bench_lines.proofs.two_numbers.Goals as goal

pub returns-in-reserved : goal.returns-in-reserved
unfolding two_numbers
returns-in-reserved c =
    let is : c.args.name.now ≡ reserved_text = text_from_reads _ reserved_text (omega arith) (search rules) in
    rw is
