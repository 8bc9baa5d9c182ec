-- `one_number`: the five bytes of `count` make its text.
use Rattle.std.proofs.Common.{◌≡◌, rules, arith}
use Rattle.std.proofs.lemmas.Slice.Eq.{text_from_reads}
use Rattle.bench_lines.specs.Commands.{count_text, one_number}
use Rattle.bench_lines.proofs.one_number.Goals as goal

pub returns-in-count : goal.returns-in-count
unfolding one_number
returns-in-count c =
    let is : c.args.name.now ≡ count_text = text_from_reads _ count_text (omega arith) (search rules) in
    rw is
