-- The parts of a text, as the loop takes them: each but the last ends in byte 10, which stands nowhere before.
use native.Mathlib.Omega.{arith}
use Prim.Native.Nat.{ℕ, suc, ◌+◌, ◌≤◌, ◌<◌, min}
use mathlib.Core.Path.{◌≡◌, refl, sym, ap, ◌∙◌}
use mathlib.Core.Bool.{false}
use mathlib.Core.Logic.{⊎_elim}
use mathlib.Core.List.{List, [], ◌∷◌, ◌++◌, append_assoc, append-nil}
use lib.ListN.{length, get_or, take, drop, length-take, take-append-drop, drop_of_length-le}
use lib.Seq.{drop-cons, take_all}
use borrow.Author.Tests.{eqb-true}
use Rattle.std.proofs.Common.{All, Option, ◌==◌}
use Rattle.std.specs.List.{IsFirstMatchOrLen}
use Rattle.std.proofs.lemmas.Bool.{cases_lt}
use Rattle.std.proofs.lemmas.Grind.{common_steps}
use Rattle.std.proofs.lemmas.List.Elements.{All-head, All-tail}
use Rattle.bench_lines.specs.Commands.{command_of}
use Rattle.bench_lines.specs.declared.Command.{Command}
use Rattle.bench_lines.specs.Lines.{lines_from, rest_from, held_line}
use Rattle.bench_lines.proofs.Lines.{lines_append, rest_append}
use Rattle.bench_answers.specs.Answered.{BenchState, answered, state_after}
use Rattle.bench_answers.proofs.Lasting.{state_append}

-- no byte ends a line
abbrev pub Unended : List ℕ → Type 0
Unended w = All (λ b. (b == 10) ≡ false) w

line_of : (came w : List ℕ) → Unended w → lines_from came (w ++ (10 ∷ [])) ≡ (came ++ w) ∷ []
unfolding lines_from
line_of came [] u = ap (λ (l : List ℕ). l ∷ []) (sym (append-nil came))
line_of came (b ∷ w) u =
    rw (All-head (λ x. (x == 10) ≡ false) b w u)
    (line_of (came ++ (b ∷ [])) w (All-tail (λ x. (x == 10) ≡ false) b w u) ∙ ap (λ (l : List ℕ). l ∷ []) (append_assoc came (b ∷ []) w))

rest_of : (came w : List ℕ) → Unended w → rest_from came (w ++ (10 ∷ [])) ≡ []
unfolding rest_from
rest_of came [] u = refl
rest_of came (b ∷ w) u = rw (All-head (λ x. (x == 10) ≡ false) b w u) (rest_of (came ++ (b ∷ [])) w (All-tail (λ x. (x == 10) ≡ false) b w u))

no_line : (came w : List ℕ) → Unended w → lines_from came w ≡ []
unfolding lines_from
no_line came [] u = refl
no_line came (b ∷ w) u = rw (All-head (λ x. (x == 10) ≡ false) b w u) (no_line (came ++ (b ∷ [])) w (All-tail (λ x. (x == 10) ≡ false) b w u))

all_rest : (came w : List ℕ) → Unended w → rest_from came w ≡ came ++ w
unfolding rest_from
all_rest came [] u = sym (append-nil came)
all_rest came (b ∷ w) u =
    rw (All-head (λ x. (x == 10) ≡ false) b w u)
    (all_rest (came ++ (b ∷ [])) w (All-tail (λ x. (x == 10) ≡ false) b w u) ∙ append_assoc came (b ∷ []) w)

-- ---- a part of what is left of the text, as `split_inclusive` cuts it
module _ (whole part left : List ℕ) (i : ℕ) (cut : whole ≡ part ++ left) (long : length part ≡ min (i + 1) (length whole)) (at : IsFirstMatchOrLen (λ (b : ℕ). b == 10) whole i) where
  pub part_ended : (w : List ℕ) → part ≡ w ++ (10 ∷ []) → Unended w
  part_ended w is = λ k d l. let n = ap length is in let a = at.0 k d (omega arith) (grind (arith, common_steps)) in grind (arith, common_steps)

  pub part_open : ((front : List ℕ) → part ≡ front ++ (10 ∷ []) → ⊥) → Unended part
  part_open none = ⊎_elim
      (λ (l : i < length whole).
      let n : length part ≡ i + 1 = omega arith in
      let hit : get_or part i 0 ≡ 10 = eqb-true _ 10 (let a = at.1 l 0 in grind (arith, common_steps)) in
      let last : drop i part ≡ 10 ∷ [] = drop-cons part i 0 (omega arith) ∙ rw (hit, drop_of_length-le part {i = suc i} (omega arith)) refl in
      absurd (none (take i part) (sym (take-append-drop i part) ∙ ap (λ (t : List ℕ). take i part ++ t) last)))
      (λ l k d m. let a = at.0 k d (omega arith) (grind (arith, common_steps)) in grind (arith, common_steps))
      (cases_lt i (length whole))

-- ---- the text so far, with one more part
module _ (came text w : List ℕ) (first : BenchState) {s : BenchState} (u : Unended w) (so_far : s ≡ state_after (lines_from came text) first) where
  -- a line that ends is answered
  pub state_on : {c : Option Command} {t : BenchState} → c ≡ command_of (rest_from came text ++ w) → t ≡ (answered c s).state → t ≡ state_after (lines_from came (text ++ (w ++ (10 ∷ [])))) first
  unfolding state_after
  state_on is did =
      did ∙ ap (λ (x : Option Command). (answered x s).state) is
      ∙ ap (λ (x : BenchState). (answered (command_of (rest_from came text ++ w)) x).state) so_far
      ∙ sym (state_append (lines_from came text) ((rest_from came text ++ w) ∷ []) first)
      ∙ ap (λ (ls : List (List ℕ)). state_after (lines_from came text ++ ls) first) (sym (line_of (rest_from came text) w u))
      ∙ ap (λ (ls : List (List ℕ)). state_after ls first) (sym (lines_append came text (w ++ (10 ∷ []))))

  -- one that does not is held
  pub state_stays : s ≡ state_after (lines_from came (text ++ w)) first
  state_stays =
      so_far
      ∙ ap (λ (ls : List (List ℕ)). state_after ls first) (sym (append-nil (lines_from came text)))
      ∙ ap (λ (ls : List (List ℕ)). state_after (lines_from came text ++ ls) first) (sym (no_line (rest_from came text) w u))
      ∙ ap (λ (ls : List (List ℕ)). state_after ls first) (sym (lines_append came text w))

pub held_none : (came text w : List ℕ) → Unended w → [] ≡ held_line (rest_from came (text ++ (w ++ (10 ∷ []))))
held_none came text w u = ap held_line (sym (rest_append came text (w ++ (10 ∷ [])) ∙ rest_of (rest_from came text) w u))

pub held_more : (came text w : List ℕ) → Unended w → held_line (rest_from came text ++ w) ≡ held_line (rest_from came (text ++ w))
held_more came text w u = ap held_line (sym (rest_append came text w ∙ all_rest (rest_from came text) w u))

pub held_few : {line : List ℕ} (came : List ℕ) → line ≡ held_line came → length line ≤ 129
held_few came is = omega (arith, ap length is, length-take 129 came)

-- what is held before any of the text has come
pub held_first : (line : List ℕ) → length line ≤ 129 → line ≡ held_line (rest_from line [])
unfolding rest_from
held_first line in-line = sym (take_all 129 line in-line)
