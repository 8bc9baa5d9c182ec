-- `collect`: the area stands after the others, or 64 of its kind are there.
use borrow.Author.Rules.{rules}
use Rattle.bench_texts.specs.Texts.{bad_line}
use Rattle.bench_answers.proofs.Replying.{taken, full, alone}
use Rattle.bench_answers.proofs.Bench.collect.Goals as goal

pub returns-in-Ok : goal.returns-in-Ok
returns-in-Ok g c =
    taken c.args.self.now c.args.area c.collect.ensures.few c.in-Ok.ensures.under c.in-Ok.ensures.ok (search rules)

pub returns-in-Err : goal.returns-in-Err
returns-in-Err g c =
    full c.args.self.now c.args.area c.collect.ensures.few c.in-Err.ensures.full c.in-Err.ensures.err (alone bad_line c.requires.empty c.put_text.ensures)
