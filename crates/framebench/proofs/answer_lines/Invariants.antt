-- `answer_lines`: the text so far is answered, and the rest is what is left to cut.
use Rattle.std.proofs.Common.{◌≡◌, List, ℕ, ◌++◌}
use Rattle.framebench.specs.Reached.{ReadyAt, AnswersLines}
use Rattle.framebench.proofs.answer_lines.Given as goal

abbrev pub invariant-loop-part : goal.invariant-loop-part
invariant-loop-part l = record {
  ready : ReadyAt l.bench l.buffers.line.items l.buffers.words;
  so_far : List ℕ;
  parted : l.text ≡ so_far ++ l.part-iterator.rest.now;
  answers : AnswersLines so_far l.fn.bench l.fn.buffers.line.items l.fn.buffers.words l.bench l.buffers.line.items l.buffers.words;
}
