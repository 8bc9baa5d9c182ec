-- Lines that come in parts: what they leave and print is what they do as a whole.
use Prim.Native.Nat.{ℕ}
use mathlib.Core.Path.{◌≡◌, refl, sym, ap, ◌∙◌}
use mathlib.Core.Bool.{Bool, true, false, cond}
use mathlib.Core.List.{List, [], ◌∷◌, ◌++◌, append_assoc, append-nil}
use lib.Dec.{eqb}
use Rattle.bench_lines.specs.Commands.{command_of}
use Rattle.std.proofs.Common.{◌<◌, take, Option}
use Rattle.bench_lines.specs.declared.Command.{Command}
use Rattle.bench_lines.specs.Lines.{lines_from}
use Rattle.bench_lines.proofs.Held.{held_decides_on}
use Rattle.bench_answers.specs.Answered.{BenchState, answered, state_after, printed}

pub state_append : (xs ys : List (List ℕ)) (s : BenchState) → state_after (xs ++ ys) s ≡ state_after ys (state_after xs s)
unfolding state_after
state_append [] ys s = refl
state_append (x ∷ xs) ys s = state_append xs ys (answered (command_of x) s).state

pub printed_append : (xs ys : List (List ℕ)) (s : BenchState) → printed (xs ++ ys) s ≡ printed xs s ++ printed ys (state_after xs s)
unfolding printed state_after
printed_append [] ys s = refl
printed_append (x ∷ xs) ys s =
    let more = answered (command_of x) s in
    ap (◌++◌ more.text) (printed_append xs ys more.state)
    ∙ sym (append_assoc more.text (printed xs more.state) (printed ys (state_after xs more.state)))

-- two beginnings of a line that are the same commands, whatever follows
abbrev SameLine : List ℕ → List ℕ → Type 0
SameLine a b = (more : List ℕ) → command_of (a ++ more) ≡ command_of (b ++ more)

goes_on : (a b : List ℕ) (x : ℕ) → SameLine a b → SameLine (a ++ (x ∷ [])) (b ++ (x ∷ []))
goes_on a b x same more = ap command_of (append_assoc a (x ∷ []) more) ∙ same (x ∷ more) ∙ ap command_of (sym (append_assoc b (x ∷ []) more))

ends : (a b : List ℕ) → SameLine a b → command_of a ≡ command_of b
ends a b same = ap command_of (sym (append-nil a)) ∙ same [] ∙ ap command_of (append-nil b)

same_state : (a b text : List ℕ) (s : BenchState) → SameLine a b → state_after (lines_from a text) s ≡ state_after (lines_from b text) s
unfolding lines_from state_after
same_state a b [] s same = refl
same_state a b (x ∷ text) s same = go (eqb x 10) (same_state (a ++ (x ∷ [])) (b ++ (x ∷ [])) text s (goes_on a b x same))
  where
    go : (t : Bool) → state_after (lines_from (a ++ (x ∷ [])) text) s ≡ state_after (lines_from (b ++ (x ∷ [])) text) s →
        state_after (cond t (a ∷ lines_from [] text) (lines_from (a ++ (x ∷ [])) text)) s ≡ state_after (cond t (b ∷ lines_from [] text) (lines_from (b ++ (x ∷ [])) text)) s
    go true later = ap (λ (c : Option Command). state_after (lines_from [] text) (answered c s).state) (ends a b same)
    go false later = later

same_print : (a b text : List ℕ) (s : BenchState) → SameLine a b → printed (lines_from a text) s ≡ printed (lines_from b text) s
unfolding lines_from printed
same_print a b [] s same = refl
same_print a b (x ∷ text) s same = go (eqb x 10) (same_print (a ++ (x ∷ [])) (b ++ (x ∷ [])) text s (goes_on a b x same))
  where
    go : (t : Bool) → printed (lines_from (a ++ (x ∷ [])) text) s ≡ printed (lines_from (b ++ (x ∷ [])) text) s →
        printed (cond t (a ∷ lines_from [] text) (lines_from (a ++ (x ∷ [])) text)) s ≡ printed (cond t (b ∷ lines_from [] text) (lines_from (b ++ (x ∷ [])) text)) s
    go true later = ap (λ (c : Option Command). (answered c s).text ++ printed (lines_from [] text) (answered c s).state) (ends a b same)
    go false later = later

-- what is held of a line stands for all that came of it
pub held_state : (room : ℕ) → 128 < room → (came text : List ℕ) (s : BenchState) → state_after (lines_from (take room came) text) s ≡ state_after (lines_from came text) s
held_state room wide came text s = same_state (take room came) came text s (held_decides_on room wide came)

pub held_print : (room : ℕ) → 128 < room → (came text : List ℕ) (s : BenchState) → printed (lines_from (take room came) text) s ≡ printed (lines_from came text) s
held_print room wide came text s = same_print (take room came) came text s (held_decides_on room wide came)
