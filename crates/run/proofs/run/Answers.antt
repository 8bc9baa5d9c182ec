-- `run`: at each turn the calls made so far, and those that are left, are the calls of the list, and the record stands open.
use Prim.Native.Nat.{ℕ, ◌+◌, ◌*◌, ◌/◌, ◌≤◌}
use lib.ListN.{length}
use Rattle.std.specs.Prelude.{Some}
use mathlib.Core.Path.{◌≡◌, refl, sym, ap, ◌∙◌}
use Rattle.run.specs.declared.Ending.{Ending}
use Rattle.run.specs.declared.Ran.{Ran}
use Rattle.run.specs.declared.RunEnd.{RunEnd}
use Rattle.run.specs.declared.RunEnd.TheVariants.{Done, Damaged, NoRoom}
use Rattle.run.specs.Runs.{ran_with, ran_to}
use Rattle.run_calls.proofs.Sound.{form_in_list}
use Rattle.run.proofs.Chunks.{chunk_decoded}
use Rattle.run.proofs.Turns.{stops_done, stops_damaged, stops_full}
use Rattle.run.proofs.Going.{going_start, going_closes, going_ruled, going_tested, going_kept, going_changed}
use native.Mathlib.Omega.{arith}
use Rattle.run.proofs.run.Goals as goal
use Rattle.run.proofs.run.Goals.{in-Keep, in-Change, else-loop-made-test, then-loop-made-test+in_default, then-loop-made-test+in-Some+then-answers-at-lt5}

abbrev ending : ℕ → RunEnd → Ending
ending made end = record { made = made; end = end }

pub loop-made-init : goal.loop-made-init
loop-made-init c = (going_start _ _ _ _ _ _ _ c.open-opened.ensures (omega arith), refl)

pub make_open-done-requires : goal.make_open-done-requires
make_open-done-requires c = going_ruled c.loop-made.invariant.0

pub close_tested-requires : goal.close_tested-requires
close_tested-requires c = going_closes c.loop-made.invariant.0

pub change_form-answer-requires : goal.change_form-answer-requires
change_form-answer-requires c = record {
  tested_value = going_tested c.loop-made.invariant.0 _ c.close_tested.ensures;
  listed = form_in_list _ _ _ _ _ (ap Some (sym c.in-Change.is) ∙ sym c.in-Some.is ∙ c.decode-decoded.ensures);
}

pub loop-made-preserved : goal.loop-made-preserved
loop-made-preserved c =
    let s = c.loop-made.invariant.0 in
    let more : 3 * c.loop-made.made + 3 ≤ length c.args.calls.now = omega arith in
    let room : 5 * c.loop-made.made + 5 ≤ length c.loop-made.answers = omega (arith, c.if-answers-at-lt5.false) in (
      elim c.match-command.branch [
        | in-Keep w ↦
            rw (w.a-is, w.opened-is, w.slots-is, w.words-is, w.answers-is, w.held-is)
            (going_kept s more _ _ (chunk_decoded c.args.areas.now c.args.calls.now c.loop-made.made _ c.as_chunks.ensures.front (omega arith) c.decode-decoded.ensures) c.in-Some.is room w.in-Keep.is w.make_open-done.ensures _ w.put_answer.ensures (omega arith) (omega arith) (omega arith) (omega arith))
        | in-Change w ↦
            rw (w.a-is, w.opened-is, w.slots-is, w.words-is, w.answers-is, w.held-is)
            (going_changed s more _ _ (chunk_decoded c.args.areas.now c.args.calls.now c.loop-made.made _ c.as_chunks.ensures.front (omega arith) c.decode-decoded.ensures) c.in-Some.is room w.in-Change.is _ w.close_tested.ensures w.change_form-answer.ensures _ w.put_answer-in-Change.ensures (omega arith) (omega arith) w.take_apart-opened.ensures (omega arith))
      ],
      c.loop-made.invariant.1,
    )

pub close_tested-requires-2 : goal.close_tested-requires-2
close_tested-requires-2 c = going_closes c.loop-made.invariant.0

pub returns : goal.returns
returns c =
    let s = c.loop-made.invariant.0.reached in
    let ran : Ending → Ran = λ ending. ran_with ending c.close_tested-2.new.a in
    elim c.loop-made-test.branch [
      | else-loop-made-test w ↦
          let all : length c.args.calls.now / 3 ≡ c.loop-made.made = omega arith in
          stops_done s (omega arith) _ (ap ran (w.ending-is ∙ c.loop-made.invariant.1 ∙ ap (λ (made : ℕ). ending made Done) all) ∙ ap (λ a. ran_to a c.loop-made.made Done) c.close_tested-2.ensures)
      | then-loop-made-test+in_default w ↦
          stops_damaged s (omega arith) _ (chunk_decoded c.args.areas.now c.args.calls.now c.loop-made.made _ w.as_chunks.ensures.front (omega arith) w.decode-decoded.ensures) w.in_default.is _ (ap ran w.ending-is ∙ ap (λ a. ran_to a c.loop-made.made Damaged) c.close_tested-2.ensures)
      | then-loop-made-test+in-Some+then-answers-at-lt5 w ↦
          stops_full s (omega arith) _ _ (chunk_decoded c.args.areas.now c.args.calls.now c.loop-made.made _ w.as_chunks.ensures.front (omega arith) w.decode-decoded.ensures) w.in-Some.is (omega (arith, w.if-answers-at-lt5.true)) _ (ap ran w.ending-is ∙ ap (λ a. ran_to a c.loop-made.made NoRoom) c.close_tested-2.ensures)
    ]
