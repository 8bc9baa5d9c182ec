-- A line's answer in code.
use Rattle.std.specs.Prelude.{ℕ, ◌*◌, ◌≡◌, List, []}
use Rattle.model.specs.Calls.{fresh_record}
use Rattle.model.specs.declared.Area.{Area}
use Rattle.model.specs.declared.FrameAllocator.{FrameAllocator}
use Rattle.rules.specs.Check.{RuledRecord}
use Rattle.bench_areas.specs.Areas.{Few}
use Rattle.bench_lists.specs.ListLines.{line_room}
use Rattle.bench_answers.specs.declared.Bench.{Bench}
use Rattle.bench_answers.specs.Answered.{BenchState, LineAnswered, collecting}

-- what a line prints at most: four lists
abbrev pub reply_room : ℕ
reply_room = 4 * line_room

-- there is room for each area that may be collected; the record keeps the rules, so that it has lists to print. `first_ready`
-- (proofs/Replying) says that it is so before the first line.
pub record Ready (b : Bench) (words : List ℕ) : Type 0 where
  pub collecting : Few b.areas.items
  pub ruled : RuledRecord b.allocator words

-- before the first line: a fresh record, and no area
pub record First (b : Bench) : Type 0 where
  pub fresh : b.allocator ≡ fresh_record
  pub none : b.areas.items ≡ []

-- what the bench and the lent words keep
abbrev pub state_of : Bench → (words : List ℕ) → BenchState
state_of b ws = record { areas = b.areas.items; allocator = b.allocator; words = ws }

-- the state after the line, what it prints, and all ready for the next line
pub record Replies (a : LineAnswered) (b : Bench) (out words : List ℕ) : Type 0 where
  pub state : state_of b words ≡ a.state
  pub text : out ≡ a.text
  pub ready : Ready b words

-- an area is collected, or refused: the words are neither read nor written
abbrev pub Gathers : Area → Bench → Bench → (out : List ℕ) → Type 0
Gathers a b b-after out = (ws : List ℕ) → RuledRecord b.allocator ws → Replies (collecting a (state_of b ws)) b-after out ws

-- the bench with the record that a call leaves
abbrev pub with_record : FrameAllocator → Bench → Bench
with_record a b = record { allocator = a; areas = b.areas }
