-- `boot` tells what a boot from the areas answers.
use mathlib.Core.List.{List}
use mathlib.Core.Path.{subst}
use Rattle.model.specs.Calls.{boot_call, Gives}
use Rattle.rules.specs.Check.{answered_with}
use Rattle.model.specs.declared.Area.{Area}
use Rattle.bench_answers.proofs.Replying.{tells, alone}
use Rattle.bench_answers.proofs.Bench.boot.Goals as goal

pub returns : goal.returns
returns g c =
    let a = c.args in
    tells a.self.now c.requires.ready
    (subst (λ (xs : List Area). Gives (boot_call xs) a.self.now.allocator a.words.now (answered_with c.boot_map-answer.result c.boot_map-answer.new.a) a.words.now) c.as_slice.ensures.areas c.boot_map-answer.ensures)
    (alone _ c.requires.empty c.write_answer.ensures)
