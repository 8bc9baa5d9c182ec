-- `read_words`: the words so far are put.
use Rattle.std.proofs.Common.{◌≡◌, ◌≤◌, true, length, map}
use Rattle.lines.specs.Words.{filled, put_all}
use Rattle.lines.proofs.read_words.Given as goal

abbrev pub invariant-loop-word : goal.invariant-loop-word
invariant-loop-word l = record {
  in_place : l.len ≤ length l.numbers;
  so_far : filled l.len l.valid l.numbers ≡ put_all l.layout (map (λ x. x.now) l.yielded) (filled 0 true l.fn.numbers);
}
