-- One call, made: its answer, the record, every word, and the held list's buffer. The words in quotes are document 01's.
use Rattle.std.specs.Prelude.{ℕ, ◌≡◌, List}
use Rattle.std.specs.Prelude.{if◌then◌else◌, Ok, Err}
use Rattle.model.specs.Calls.{Call, answer, short_buffer, Gives, held_buffer, buffer_left}
use Rattle.model.specs.declared.Called.{Called}
use Rattle.model.specs.declared.FrameAllocator.{FrameAllocator}
use Rattle.model.specs.declared.refusals.Refusal.{Refusal}
use Rattle.model.specs.declared.refusals.Refusal.TheVariants.{TooFewWords}
use Rattle.model.specs.Refusals.{refused_answer}
use Rattle.lists.specs.Whole.{lists_in, handed_with}
use Rattle.lists.specs.declared.header.Header.{Header}
use Rattle.lists.specs.declared.header.HandedBack.{HandedBack}
use Rattle.lists.specs.Open.{lent, DoesOpen}
use Rattle.rules.specs.Check.{Verdict}

-- "Order: 3, 11": a short buffer before the verdict of the test
unfoldable pub verdict_for : Call → Verdict → Verdict
verdict_for c tested = if short_buffer c then Err TooFewWords else tested

pub record Made (c : Call) (a : FrameAllocator) (ws before : List ℕ) (called : Called) (words_after after : List ℕ) : Type 0 where
  pub gives : Gives c a ws called words_after
  pub buffer : after ≡ buffer_left c a ws before

-- a call on an allocator that stands open, by the verdict of the test: refused, with nothing changed, or done
pub data MadeOpen (c : Call) (tested : Verdict) (h : Header) (slots ws before : List ℕ) (d : HandedBack) : List ℕ → List ℕ → List ℕ → Type 0 where
  refused : (r : Refusal) → verdict_for c tested ≡ Err r → d ≡ handed_with (refused_answer r) h → MadeOpen c tested h slots ws before d slots ws before
  done : {slots_after ws-after after : List ℕ} → verdict_for c tested ≡ Ok tt → DoesOpen (answer c) h slots ws d slots_after ws-after →
      after ≡ held_buffer c (lists_in h (lent h.sorted slots ws)) before → MadeOpen c tested h slots ws before d slots_after ws-after after
