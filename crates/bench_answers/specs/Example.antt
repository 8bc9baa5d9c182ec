-- Document 01's example of the bench program, byte for byte: a line of it on each line here.
use Rattle.std.specs.Prelude.{ℕ, ◌≡◌, List, [], ◌∷◌, replicate}
use Rattle.bench_lines.specs.Lines.{lines_from}
use Rattle.bench_answers.specs.Answered.{first_state, printed}

-- "Input `(free 0 9)`, `(reserved 100 104)`, `(boot)`, `(sort)`, `(at 102 6)`, `(count 3)`, `(list)`"
abbrev pub example_input : List ℕ
example_input =
    40 ∷ 102 ∷ 114 ∷ 101 ∷ 101 ∷ 32 ∷ 48 ∷ 32 ∷ 57 ∷ 41 ∷ 10 ∷
    40 ∷ 114 ∷ 101 ∷ 115 ∷ 101 ∷ 114 ∷ 118 ∷ 101 ∷ 100 ∷ 32 ∷ 49 ∷ 48 ∷ 48 ∷ 32 ∷ 49 ∷ 48 ∷ 52 ∷ 41 ∷ 10 ∷
    40 ∷ 98 ∷ 111 ∷ 111 ∷ 116 ∷ 41 ∷ 10 ∷
    40 ∷ 115 ∷ 111 ∷ 114 ∷ 116 ∷ 41 ∷ 10 ∷
    40 ∷ 97 ∷ 116 ∷ 32 ∷ 49 ∷ 48 ∷ 50 ∷ 32 ∷ 54 ∷ 41 ∷ 10 ∷
    40 ∷ 99 ∷ 111 ∷ 117 ∷ 110 ∷ 116 ∷ 32 ∷ 51 ∷ 41 ∷ 10 ∷
    40 ∷ 108 ∷ 105 ∷ 115 ∷ 116 ∷ 41 ∷ 10 ∷ []

-- "prints"
abbrev pub example_output : List ℕ
example_output =
    40 ∷ 100 ∷ 111 ∷ 110 ∷ 101 ∷ 41 ∷ 10 ∷
    40 ∷ 100 ∷ 111 ∷ 110 ∷ 101 ∷ 41 ∷ 10 ∷
    40 ∷ 103 ∷ 114 ∷ 97 ∷ 110 ∷ 116 ∷ 32 ∷ 49 ∷ 48 ∷ 50 ∷ 32 ∷ 49 ∷ 48 ∷ 55 ∷ 41 ∷ 10 ∷
    40 ∷ 103 ∷ 114 ∷ 97 ∷ 110 ∷ 116 ∷ 32 ∷ 48 ∷ 32 ∷ 50 ∷ 41 ∷ 10 ∷
    40 ∷ 103 ∷ 101 ∷ 110 ∷ 101 ∷ 114 ∷ 97 ∷ 108 ∷ 45 ∷ 102 ∷ 114 ∷ 101 ∷ 101 ∷ 32 ∷ 40 ∷ 51 ∷ 32 ∷ 57 ∷ 41 ∷ 41 ∷ 10 ∷
    40 ∷ 114 ∷ 101 ∷ 115 ∷ 101 ∷ 114 ∷ 118 ∷ 101 ∷ 100 ∷ 45 ∷ 102 ∷ 114 ∷ 101 ∷ 101 ∷ 32 ∷ 40 ∷ 49 ∷ 48 ∷ 48 ∷ 32 ∷ 49 ∷ 48 ∷ 49 ∷ 41 ∷ 41 ∷ 10 ∷
    40 ∷ 103 ∷ 101 ∷ 110 ∷ 101 ∷ 114 ∷ 97 ∷ 108 ∷ 45 ∷ 114 ∷ 101 ∷ 103 ∷ 105 ∷ 111 ∷ 110 ∷ 115 ∷ 32 ∷ 40 ∷ 48 ∷ 32 ∷ 57 ∷ 41 ∷ 41 ∷ 10 ∷
    40 ∷ 114 ∷ 101 ∷ 115 ∷ 101 ∷ 114 ∷ 118 ∷ 101 ∷ 100 ∷ 45 ∷ 114 ∷ 101 ∷ 103 ∷ 105 ∷ 111 ∷ 110 ∷ 115 ∷ 32 ∷ 40 ∷ 49 ∷ 48 ∷ 48 ∷ 32 ∷ 49 ∷ 48 ∷ 52 ∷ 41 ∷ 32 ∷ 40 ∷ 49 ∷ 48 ∷ 53 ∷ 32 ∷ 49 ∷ 48 ∷ 55 ∷ 41 ∷ 41 ∷ 10 ∷ []

abbrev pub Example : Type 0
Example = printed (lines_from [] example_input) (first_state (replicate 4096 0)) ≡ example_output
