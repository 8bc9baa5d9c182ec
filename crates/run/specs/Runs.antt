-- A list of calls as words, and what a run of it gives: demand 3 whole. The words in quotes are the demand's, or document 01's on it.
use Rattle.std.specs.Prelude.{ℕ, zero, suc, ◌/◌, ◌≡◌, true, List, [], ◌∷◌, ◌++◌, length, take, drop}
use Rattle.model.specs.Boot.{Extent}
use Rattle.model.specs.Calls.{Call, Outcome, call, fresh_record}
use Rattle.model.specs.History.{outcomes, record_after, words_after, buffer_after, is_general, Boots, Holds}
use Rattle.model.specs.Words.{answer_words}
use Rattle.model.specs.declared.FrameAllocator.{FrameAllocator}
use Rattle.boot_areas.specs.Areas.{triples}
use Rattle.lists.specs.declared.header.Header.{Header}
use Rattle.lists.specs.Packed.{closed}
use Rattle.rules.specs.Check.{Verdict}
use Rattle.run_calls.specs.Commands.{decoded, call_in}
use Rattle.run_calls.specs.declared.RunCall.{RunCall}
use Rattle.std.specs.Prelude.{Option, Some, None, Ok, Err}
use Rattle.run.specs.declared.Ending.{Ending}
use Rattle.run.specs.declared.Ran.{Ran}
use Rattle.run.specs.declared.RunEnd.{RunEnd}
use Rattle.run.specs.declared.RunEnd.TheVariants as end

-- ---- the calls that are made

-- three words each; one or two words that are left over are not read
abbrev pub decoded_in : (areas calls : List ℕ) → List (Option RunCall)
decoded_in areas calls = triples (decoded (length areas)) calls

-- up to the first that is damaged
unfoldable pub calls_in : (areas : List ℕ) (held_len : ℕ) → List (Option RunCall) → List Call
calls_in areas held_len [] = []
calls_in areas held_len (Some c ∷ ds) = call_in areas held_len c ∷ calls_in areas held_len ds
calls_in areas held_len (None ∷ ds) = []

-- and as many as there is room for, five words to an answer
abbrev pub calls_made : (areas calls answers held : List ℕ) → List Call
calls_made areas calls answers held = take (length answers / 5) (calls_in areas (length held) (decoded_in areas calls))

-- why a run ends that has room for so many answers
unfoldable pub end_of : (room : ℕ) → List (Option RunCall) → RunEnd
end_of room [] = end.Done
end_of room (None ∷ ds) = end.Damaged
end_of zero (Some c ∷ ds) = end.NoRoom
end_of (suc room) (Some c ∷ ds) = end_of room ds

-- how a run ends and what it leaves of the record, together
abbrev pub ran_with : Ending → FrameAllocator → Ran
ran_with e a = record { ending = e; allocator = a }

abbrev pub ran_to : FrameAllocator → ℕ → RunEnd → Ran
ran_to a n e = ran_with (record { made = n; end = e }) a

-- ---- the record of a run

-- the record as the calls made so far left it: closed from what stands open; a record that the test refuses stays as it was
unfoldable pub record_now : Verdict → FrameAllocator → Header → (slots : List ℕ) → FrameAllocator
record_now (Ok u) a h slots = closed a h slots
record_now (Err r) a h slots = a

-- ---- what they leave

unfoldable pub all_answers : List Outcome → List ℕ
all_answers [] = []
all_answers (o ∷ os) = answer_words o.answer ++ all_answers os

-- "Each gets record and workspace as the call before left them"
pub record RunsCalls (cs : List Call) (a : FrameAllocator) (ws answers held : List ℕ) (r : Ran) (words-after answers-after held_after : List ℕ) : Type 0 where
  pub made : r.ending.made ≡ length cs
  pub records : r.allocator ≡ record_after cs a ws
  pub words : words-after ≡ words_after cs a ws
  -- "Then each is answered as 2's definitions say"; the words after the last answer are as they were
  pub answered : answers-after ≡ all_answers (outcomes cs a ws) ++ drop (length (all_answers (outcomes cs a ws))) answers
  pub buffer : held_after ≡ buffer_after cs a ws held

-- "Let a fresh record's first call be a boot that is accepted and makes at least one frame general. Take any list of further calls on
-- that record, refused ones included"
unfoldable pub Demanded : List Call → FrameAllocator → List ℕ → Type 0
Demanded [] a ws = Unit {0}
Demanded (b ∷ cs) a ws =
    (xs : List Extent) → Boots b xs → a ≡ fresh_record → (call b a ws).answer.number ≡ 0 → (f : ℕ) → is_general xs f ≡ true →
    Holds xs (call b a ws).allocator (call b a ws).words cs

pub record Runs (areas calls : List ℕ) (a : FrameAllocator) (ws answers held : List ℕ) (r : Ran) (words-after answers-after held_after : List ℕ) : Type 0 where
  pub runs : RunsCalls (calls_made areas calls answers held) a ws answers held r words-after answers-after held_after
  pub ends : r.ending.end ≡ end_of (length answers / 5) (decoded_in areas calls)
  pub demand : Demanded (calls_made areas calls answers held) a ws
