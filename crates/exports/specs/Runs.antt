-- A run in place, as C sees it: why it ended is a number.
use Rattle.std.specs.Prelude.{ℕ, ◌/◌, ◌≡◌, List, length}
use Rattle.model.specs.declared.FrameAllocator.{FrameAllocator}
use Rattle.run.specs.Runs.{decoded_in, end_of, ran_to, Runs}
use Rattle.run.specs.declared.Ending.{Ending}
use Rattle.run.specs.declared.RunEnd.{RunEnd}
use Rattle.run.specs.declared.RunEnd.TheVariants.{Done, Damaged, NoRoom}
use Rattle.exports.specs.declared.runs.RunCounts.{RunCounts}

abbrev pub end_number : RunEnd → ℕ
end_number Done = 0
end_number Damaged = 1
end_number NoRoom = 2

abbrev pub counts_of : Ending → RunCounts
counts_of e = record { made = e.made; end = end_number e.end }

-- why such a run ends
abbrev pub why_ended : (areas calls answers : List ℕ) → RunEnd
why_ended areas calls answers = end_of (length answers / 5) (decoded_in areas calls)

-- `Runs`, with the record left in place
pub record RunsInPlace (areas calls : List ℕ) (a : FrameAllocator) (ws answers held : List ℕ) (r : RunCounts) (a-after : FrameAllocator) (words-after answers-after held_after : List ℕ) : Type 0 where
  pub runs : Runs areas calls a ws answers held (ran_to a-after r.made (why_ended areas calls answers)) words-after answers-after held_after
  pub ends : r.end ≡ end_number (why_ended areas calls answers)
