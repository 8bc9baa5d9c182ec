-- `answer_lines` takes each part once, and every part leaves the bench ready for the next.
use Rattle.std.proofs.Common.{◌≡◌, ◌==◌, ℕ, List, [], ◌++◌, ◌∷◌, length, ap, sym, refl, ◌∙◌, Some, None, append_assoc, append-nil, rules, tests, arith}
use Rattle.std.proofs.lemmas.Bool.Decides.{Decides-eqb}
use Rattle.std.proofs.lemmas.Fn.{always_returns_same}
use Rattle.std.proofs.lemmas.List.{nil_from_length}
use Rattle.std.proofs.lemmas.Slice.Eq.{strip_suffix_is}
use Rattle.bench_lines.specs.Commands.{command_of}
use Rattle.bench_lines.specs.Lines.{lines_from, held_line}
use Rattle.bench_lines.proofs.Held.{held_on, held_decides}
use Rattle.bench_answers.specs.Answered.{state_after}
use Rattle.framebench.proofs.Going.{part_ended, part_open, state_on, state_stays, held_few, held_first, held_none, held_more}
use Rattle.framebench.proofs.answer_lines.Goals as goal

pub loop-part-init : goal.loop-part-init
unfolding state_after lines_from
loop-part-init c = record {
  ready = c.requires;
  so_far = [];
  parted = sym (ap (λ x. x.rest.now) c.into_iter-part-iterator.ensures.into_iter_gives ∙ c.split_inclusive-part-items.ensures.rest);
  answers = record { state = refl; rest = held_first _ c.requires.held_in };
}

pub answer_line-requires : goal.answer_line-requires
answer_line-requires c = c.loop-part.invariant.ready.ready

pub loop-part-preserved-in-Some-strip_suffix : goal.loop-part-preserved-in-Some-strip_suffix
loop-part-preserved-in-Some-strip_suffix c =
    let v = c.loop-part.invariant in
    let a = c.answer_line.ensures in
    let cut = c.in-Some.ensures.steps in
    let line = c.in-Some-strip_suffix.line.now in
    let left = c.next.new.self.rest.now in
    let at = (cut.1.2 (λ b. b == 10) (always_returns_same _ (λ x r. r ≡ (x.0.now == 10)) _ (λ x r q k. (search (rules, tests), refl)))).1 in
    let is : c.in-Some.part.now ≡ line ++ (10 ∷ []) = strip_suffix_is Decides-eqb c.in-Some.part.now (10 ∷ []) (Some c.in-Some-strip_suffix.line) c.in-Some-strip_suffix.ensures.cases in
    let u = part_ended _ c.in-Some.part.now left cut.1.0 cut.0 cut.1.1 at line is in
    let whole = c.hold.ensures ∙ ap (λ (t : List ℕ). held_line (t ++ line)) v.answers.rest ∙ held_on 129 _ line in
    record {
      ready = record { ready = a.replies.ready; held_in = omega (arith, ap length a.none_held) };
      so_far = v.so_far ++ (line ++ (10 ∷ []));
      parted = v.parted ∙ ap (λ (t : List ℕ). v.so_far ++ t) (cut.0 ∙ ap (λ (t : List ℕ). t ++ left) is) ∙ sym (append_assoc v.so_far (line ++ (10 ∷ [])) left);
      answers = record {
        state = state_on _ v.so_far line _ u v.answers.state (ap command_of whole ∙ held_decides 129 (omega arith) _) a.replies.state;
        rest = a.none_held ∙ held_none _ v.so_far line u;
      };
    }

pub loop-part-preserved : goal.loop-part-preserved
loop-part-preserved c =
    let v = c.loop-part.invariant in
    let cut = c.in-Some.ensures.steps in
    let part = c.in-Some.part.now in
    let left = c.next.new.self.rest.now in
    let at = (cut.1.2 (λ b. b == 10) (always_returns_same _ (λ x r. r ≡ (x.0.now == 10)) _ (λ x r q k. (search (rules, tests), refl)))).1 in
    let u = part_open _ part left cut.1.0 cut.0 cut.1.1 at (strip_suffix_is Decides-eqb part (10 ∷ []) None c.in_default.ensures.cases) in
    let whole = c.hold-in_default.ensures ∙ ap (λ (t : List ℕ). held_line (t ++ part)) v.answers.rest ∙ held_on 129 _ part in
    record {
      ready = record { ready = v.ready.ready; held_in = held_few _ c.hold-in_default.ensures };
      so_far = v.so_far ++ part;
      parted = v.parted ∙ ap (λ (t : List ℕ). v.so_far ++ t) cut.0 ∙ sym (append_assoc v.so_far part left);
      answers = record {
        state = state_stays _ v.so_far part _ u v.answers.state;
        rest = whole ∙ held_more _ v.so_far part u;
      };
    }

pub returns-clause-answers_lines : goal.returns-clause-answers_lines
returns-clause-answers_lines c =
    let v = c.loop-part.invariant in
    let all = v.parted ∙ ap (λ (t : List ℕ). v.so_far ++ t) (nil_from_length _ c.in-None.ensures.steps.0) ∙ append-nil v.so_far in
    rw all v.answers
