-- A run that is left in place: from what `run::run` hands back, and the number that stands for its end.
use mathlib.Core.Path.{◌≡◌, sym, ap, subst, ◌∙◌}
use Prim.Native.Nat.{ℕ}
use mathlib.Core.List.{List}
use Rattle.model.specs.declared.FrameAllocator.{FrameAllocator}
use Rattle.run.specs.Runs.{ran_to, Runs}
use Rattle.run.specs.declared.Ran.{Ran}
use Rattle.run.specs.declared.RunEnd.{RunEnd}
use Rattle.exports.specs.Runs.{end_number, counts_of, why_ended, RunsInPlace}
use Rattle.exports.specs.declared.runs.RunCounts.{RunCounts}

pub in_place : {areas calls : List ℕ} {a : FrameAllocator} {ws answers held : List ℕ} {r : Ran} {c : RunCounts} {words-after answers-after held_after : List ℕ} →
    Runs areas calls a ws answers held r words-after answers-after held_after → c ≡ counts_of r.ending →
    RunsInPlace areas calls a ws answers held c r.allocator words-after answers-after held_after
in_place {areas} {calls} {a} {ws} {answers} {held} {r} {c} {words-after} {answers-after} {held_after} e counts =
    record {
      runs =
          subst (λ (n : ℕ). Runs areas calls a ws answers held (ran_to r.allocator n (why_ended areas calls answers)) words-after answers-after held_after) (sym (ap (λ (k : RunCounts). k.made) counts))
          (subst (λ (w : RunEnd). Runs areas calls a ws answers held (ran_to r.allocator r.ending.made w) words-after answers-after held_after) e.ends e);
      ends = ap (λ (k : RunCounts). k.end) counts ∙ ap end_number e.ends;
    }
