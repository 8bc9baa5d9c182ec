-- How far the bench program has come.
use Rattle.std.specs.Prelude.{ℕ, ◌≤◌, ◌≡◌, List, length}
use Rattle.bench_lines.specs.Lines.{lines_from, rest_from, held_line}
use Rattle.bench_answers.specs.Answered.{state_after}
use Rattle.bench_answers.specs.Replies.{Ready, state_of}
use Rattle.bench_answers.specs.declared.Bench.{Bench}

-- ready for a line, of which some bytes may have come: 129 decide what it is (`held_decides`, bench_lines/proofs/Held)
pub record ReadyAt (b : Bench) (line words : List ℕ) : Type 0 where
  pub ready : Ready b words
  pub held_in : length line ≤ 129

-- what is kept is what each line that ends in the text leaves, one after another, and what came of the next line is held. What a line
-- prints is in the contract of `answer_line`. `held_state` and `state_append` (bench_answers/proofs/Lasting), `lines_append` and
-- `rest_append` (bench_lines/proofs/Lines) say that the text may be parted anywhere.
pub record AnswersLines (text : List ℕ) (b : Bench) (line words : List ℕ) (b-after : Bench) (line-after words-after : List ℕ) : Type 0 where
  pub state : state_of b-after words-after ≡ state_after (lines_from line text) (state_of b words)
  pub rest : line-after ≡ held_line (rest_from line text)
