-- `answer`: each command does what it says, and leaves the bench ready for the next.
use mathlib.Core.Path.{sym, ap, ◌∙◌}
use Rattle.std.proofs.Common.{Some}
use Rattle.bench_texts.specs.Texts.{bad_line}
use Rattle.bench_answers.specs.Answered.{answered}
use Rattle.bench_answers.proofs.Replying.{says, tells, alone}
use Rattle.bench_answers.proofs.Bench.answer.Goals as goal

pub returns-in-Collect : goal.returns-in-Collect
unfolding answered
returns-in-Collect g c = rw (sym c.read_command.ensures ∙ c.in-Some.is ∙ ap Some c.in-Collect.is) (c.collect.ensures c.args.words.now c.requires.ready.ruled)

pub returns-in-Boot : goal.returns-in-Boot
unfolding answered
returns-in-Boot g c = rw (sym c.read_command.ensures ∙ c.in-Some.is ∙ ap Some c.in-Boot.is) c.boot.ensures

pub returns-in-Sort : goal.returns-in-Sort
unfolding answered
returns-in-Sort g c =
    rw (sym c.read_command.ensures ∙ c.in-Some.is ∙ ap Some c.in-Sort.is) (tells c.args.self.now c.requires.ready c.convert_frame_allocator_to_heap_based.ensures (alone _ c.clear.ensures c.write_answer.ensures))

pub returns-in-Count : goal.returns-in-Count
unfolding answered
returns-in-Count g c =
    rw (sym c.read_command.ensures ∙ c.in-Some.is ∙ ap Some c.in-Count.is) (tells c.args.self.now c.requires.ready c.allocate.ensures (alone _ c.clear.ensures c.write_answer-in-Count.ensures))

pub returns-in-At : goal.returns-in-At
unfolding answered
returns-in-At g c =
    rw (sym c.read_command.ensures ∙ c.in-Some.is ∙ ap Some c.in-At.is) (tells c.args.self.now c.requires.ready c.allocate-in-At.ensures (alone _ c.clear.ensures c.write_answer-in-At.ensures))

pub returns-in-Give : goal.returns-in-Give
unfolding answered
returns-in-Give g c =
    rw (sym c.read_command.ensures ∙ c.in-Some.is ∙ ap Some c.in-Give.is) (tells c.args.self.now c.requires.ready c.return_frames.ensures (alone _ c.clear.ensures c.write_answer-in-Give.ensures))

pub returns-in-Lists : goal.returns-in-Lists
unfolding answered
returns-in-Lists g c = rw (sym c.read_command.ensures ∙ c.in-Some.is ∙ ap Some c.in-Lists.is) (says c.args.self.now c.requires.ready c.list.ensures)

pub returns-in_default : goal.returns-in_default
unfolding answered
returns-in_default g c = rw (sym c.read_command.ensures ∙ c.in_default.is) (says c.args.self.now c.requires.ready (alone bad_line c.clear.ensures c.put_text.ensures))
