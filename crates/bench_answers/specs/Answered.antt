-- The bench program, line by line. The words in quotes are document 01's.
use Rattle.std.specs.Prelude.{ℕ, cond, List, [], ◌∷◌, ◌++◌, ltb, Option, Some, None}
use Rattle.model.specs.Lists.{Lists}
use Rattle.model.specs.Store.{load}
use Rattle.model.specs.Calls.{Call, call, boot_call, sort_call, count_call, address_call, return_call, fresh_record}
use Rattle.model.specs.declared.Area.{Area}
use Rattle.model.specs.declared.FrameAllocator.{FrameAllocator}
use Rattle.lists.specs.declared.header.WhichList.TheVariants.{GeneralFree, ReservedFree, GeneralRegions, ReservedRegions}
use Rattle.bench_areas.specs.Areas.{how_many}
use Rattle.bench_lines.specs.Commands.{command_of}
use Rattle.bench_lines.specs.declared.Command.{Command}
use Rattle.bench_lines.specs.declared.Command.TheVariants.{Collect, Boot, Sort, Count, At, Give, Lists as TheLists}
use Rattle.bench_texts.specs.Texts.{bad_line, answer_line}
use Rattle.bench_lists.specs.ListLines.{line_of}

-- what is kept from line to line: the areas collected so far, the record and its workspace
pub record BenchState : Type 0 where
  pub areas : List Area
  pub allocator : FrameAllocator
  pub words : List ℕ

-- before the first line
unfoldable pub first_state : List ℕ → BenchState
first_state ws = record { areas = []; allocator = fresh_record; words = ws }

-- what a line leaves, and what it prints
pub record LineAnswered : Type 0 where
  pub state : BenchState
  pub text : List ℕ

-- all is kept
abbrev pub saying : List ℕ → BenchState → LineAnswered
saying t s = record { state = s; text = t }

-- "`(free S E)`, `(reserved S E)` collect areas (64 each)"; "Collecting prints nothing"; "the 65th of a kind is `(bad)`"
unfoldable pub collecting : Area → BenchState → LineAnswered
collecting a s =
    cond (ltb (how_many a.kind s.areas) 64)
    (record { state = record { areas = s.areas ++ (a ∷ []); allocator = s.allocator; words = s.words }; text = [] })
    (saying bad_line s)

-- "others print `(done)`, `(grant S E)` or `(no N)` with the refusal"; "Collected areas stay after a boot"
unfoldable pub calling : Call → BenchState → LineAnswered
calling c s = record {
  state = record { areas = s.areas; allocator = (call c s.allocator s.words).allocator; words = (call c s.allocator s.words).words };
  text = answer_line (call c s.allocator s.words).answer;
}

-- "`(list)` prints the four lists in stored order"
unfoldable pub four_lines : Lists → List ℕ
four_lines l = line_of GeneralFree l ++ (line_of ReservedFree l ++ (line_of GeneralRegions l ++ line_of ReservedRegions l))

unfoldable pub answered : Option Command → BenchState → LineAnswered
answered (Some (Collect a)) = collecting a
answered (Some Boot) = λ s. calling (boot_call s.areas) s
answered (Some Sort) = calling sort_call
answered (Some (Count n)) = calling (count_call n)
answered (Some (At s n)) = calling (address_call s n)
answered (Some (Give r)) = calling (return_call r)
answered (Some TheLists) = λ s. saying (four_lines (load s.allocator s.words)) s
answered None = saying bad_line

-- one line after another: what is kept after them, and what they print
unfoldable pub state_after : List (List ℕ) → BenchState → BenchState
state_after [] s = s
state_after (line ∷ lines) s = state_after lines (answered (command_of line) s).state

unfoldable pub printed : List (List ℕ) → BenchState → List ℕ
printed [] s = []
printed (line ∷ lines) s = (answered (command_of line) s).text ++ printed lines (answered (command_of line) s).state
