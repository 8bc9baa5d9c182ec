-- A run has no choice: two outcomes that meet its contract are one.
use mathlib.Core.Path.{◌≡◌, sym, ◌∙◌}
use Prim.Native.Nat.{ℕ}
use mathlib.Core.List.{List}
use Rattle.model.specs.declared.FrameAllocator.{FrameAllocator}
use Rattle.run.specs.declared.Ran.{Ran}
use Rattle.run.specs.Runs.{ran_to, Runs}

-- an outcome: how the run ended, the record, the words, the answers and the held list's buffer
pub record RunOutcome : Type 0 where
  pub ran : Ran
  pub words : List ℕ
  pub answers : List ℕ
  pub held : List ℕ

-- Given the calls, the areas, the record and what is lent, every word that a run leaves is settled.
pub run_decided : (areas calls : List ℕ) (a : FrameAllocator) (ws answers held : List ℕ) (x y : RunOutcome) → Runs areas calls a ws answers held x.ran x.words x.answers x.held → Runs areas calls a ws answers held y.ran y.words y.answers y.held → x ≡ y
run_decided areas calls a ws answers held x y r s =
    let made = r.runs.made ∙ sym s.runs.made in
    let records = r.runs.records ∙ sym s.runs.records in
    let ends = r.ends ∙ sym s.ends in
    let words = r.runs.words ∙ sym s.runs.words in
    let answered = r.runs.answered ∙ sym s.runs.answered in
    let buffer = r.runs.buffer ∙ sym s.runs.buffer in
    λ i. record { ran = ran_to (records i) (made i) (ends i); words = words i; answers = answered i; held = buffer i }
