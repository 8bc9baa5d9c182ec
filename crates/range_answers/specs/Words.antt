-- What a caller in C sees of an answer: the number is returned, and the words of `out` are 1 for yes, 0 for no and for 2, then the
-- value; a no and a 2 show "[1,0], or 0 where a number is returned" (document 01).
use Rattle.std.specs.Prelude.{ℕ, ◌≡◌, List, [], ◌∷◌, ◌++◌}
use Rattle.std.specs.Prelude.{if◌then◌else◌}
use Rattle.memory_structs.specs.Answers.{Shown}
use Rattle.memory_structs.specs.declared.range.FrameRange.{FrameRange}
use Rattle.memory_structs.specs.declared.frames.SplitFrames.{SplitFrames}
use Rattle.memory_structs.specs.declared.frames.Halves.{Halves}

-- the words of each kind of value, a range as start and end
abbrev pub unit_words : Unit {0} → List ℕ
unit_words v = []

abbrev pub number_words : ℕ → List ℕ
number_words n = n ∷ []

abbrev pub range_words : FrameRange → List ℕ
range_words r = r.start ∷ r.end ∷ []

abbrev pub split_words : SplitFrames → List ℕ
split_words s = range_words s.before_start ++ (range_words s.start_to_end ++ range_words s.after_end)

abbrev pub halves_words : Halves → List ℕ
halves_words h = range_words h.first ++ range_words h.second

pub record Written {A : Type 0} (words : A → List ℕ) (shown : Shown A) (number : ℕ) (out : List ℕ) : Type 0 where
  pub number_is : number ≡ shown.number
  pub words_are : out ≡ (if shown.found then 1 else 0) ∷ words shown.value
