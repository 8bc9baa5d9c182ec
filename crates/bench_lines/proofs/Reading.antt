-- Laws of forms: the words between the brackets, and a line by its length and its brackets.
use native.Mathlib.Omega.{arith}
use Prim.Native.Nat.{ℕ, suc, ◌-◌, ◌≤◌, ◌<◌}
use mathlib.Core.Path.{◌≡◌, refl, sym, ap, ◌∙◌}
use mathlib.Core.List.{List, [], ◌∷◌}
use mathlib.Core.Logic.{◌≢◌}
use lib.ListN.{length, take, drop, get_or, drop_of_length-le}
use lib.Seq.{drop-cons}
use lib.Dec.{eqb}
use Rattle.std.specs.Str.{bytes_eq}
use borrow.Author.Tests.{le-leb, lt-leb, lt-ltb, le-ltb, eq-eqb, ne_eqb}
use Rattle.std.proofs.Math.Bool.{and-true}
use Rattle.std.proofs.Common.{Option, Some, None}
use Rattle.std.proofs.lemmas.Iterator.{YieldsList}
use Rattle.std.specs.Iterator.{AlwaysYields}
use Rattle.lines.specs.Words.{words_of_line}
use Rattle.bench_lines.specs.Commands.{command_in, is_form, in_brackets, command_of}

-- ---- a line by its length and its brackets

module _ (line : List ℕ) where
  pub too_long : 128 < length line → None ≡ command_of line
  unfolding command_of
  too_long h = rw (lt-ltb 128 (length line) h)

  pub too_short : length line < 2 → None ≡ command_of line
  unfolding command_of is_form
  too_short h = rw (le-ltb 128 (length line) (omega arith), lt-leb 2 (length line) h)

  first : 2 ≤ length line → (x : ℕ) → bytes_eq (take 1 line) (x ∷ []) ≡ eqb (get_or line 0 0) x
  first long = go line long
    where
      go : (l : List ℕ) → 2 ≤ length l → (x : ℕ) → bytes_eq (take 1 l) (x ∷ []) ≡ eqb (get_or l 0 0) x
      go [] long x = absurd (omega arith)
      go (b ∷ l) long x = and-true (eqb b x)

  last : 2 ≤ length line → (x : ℕ) → bytes_eq (drop (length line - 1) line) (x ∷ []) ≡ eqb (get_or line (length line - 1) 0) x
  last long x =
      let none : drop (suc (length line - 1)) line ≡ [] = drop_of_length-le line {i = suc (length line - 1)} (omega arith) in
      rw (drop-cons line (length line - 1) 0 (omega arith), none) (and-true (eqb (get_or line (length line - 1) 0) x))

  module _ (short : length line ≤ 128) (long : 2 ≤ length line) where
    pub not_opened : get_or line 0 0 ≢ 40 → None ≡ command_of line
    unfolding command_of is_form
    not_opened o = rw (le-ltb 128 (length line) short, le-leb 2 (length line) long, first long 40, ne_eqb (get_or line 0 0) 40 o)

    pub not_closed : get_or line 0 0 ≡ 40 → get_or line (length line - 1) 0 ≢ 41 → None ≡ command_of line
    unfolding command_of is_form
    not_closed o e = rw (le-ltb 128 (length line) short, le-leb 2 (length line) long, first long 40, eq-eqb (get_or line 0 0) 40 o, last long 41, ne_eqb (get_or line (length line - 1) 0) 41 e)

    pub form : get_or line 0 0 ≡ 40 → get_or line (length line - 1) 0 ≡ 41 → command_in (words_of_line (in_brackets line)) ≡ command_of line
    unfolding command_of is_form
    form o e = rw (le-ltb 128 (length line) short, le-leb 2 (length line) long, first long 40, eq-eqb (get_or line 0 0) 40 o, last long 41, eq-eqb (get_or line (length line - 1) 0) 41 e)

-- ---- the words that calls of `next` give

module _ {S A B : Type 0} (steps : S → Option A → S → Type 0) (v : A → B) where
  none_left : (ts : List B) (s t : S) → AlwaysYields steps v s ts → steps s None t → ts ≡ []
  none_left [] s t all step = refl
  none_left (y ∷ ys) s t all step = absurd (all.0 t step)

  one_left : (ts : List B) (s t : S) (x : A) → AlwaysYields steps v s ts → steps s (Some x) t → (rest : List B) × (ts ≡ v x ∷ rest) × AlwaysYields steps v t rest
  one_left [] s t x all step = absurd (all x t step)
  one_left (y ∷ ys) s t x all step = let m = all.1 x t step in (ys, ap (λ (z : B). z ∷ ys) (sym m.0), m.1)

module _ {S A B : Type 0} {steps : S → Option A → S → Type 0} {v : A → B} {ts : List B} {s : S} (t u : S) (all : YieldsList steps v s ts) (a : A) (first : steps s (Some a) t) where
  pub one_word : steps t None u → ts ≡ v a ∷ []
  one_word end = let m = one_left steps v ts s t a all.runs first in m.1 ∙ ap (◌∷◌ (v a)) (none_left steps v m.0 t u m.2 end)

  module _ (b : A) (second : steps t (Some b) u) where
    two_left : (rest : List B) × (ts ≡ v a ∷ v b ∷ rest) × AlwaysYields steps v u rest
    two_left =
        let m = one_left steps v ts s t a all.runs first in
        let n = one_left steps v m.0 t u b m.2 second in
        (n.0, m.1 ∙ ap (◌∷◌ (v a)) n.1, n.2)

    pub two_words : (w : S) → steps u None w → ts ≡ v a ∷ v b ∷ []
    two_words w end = let m = two_left in m.1 ∙ ap (λ (l : List B). v a ∷ v b ∷ l) (none_left steps v m.0 u w m.2 end)

    three_left : (w : S) (c : A) → steps u (Some c) w → (rest : List B) × (ts ≡ v a ∷ v b ∷ v c ∷ rest) × AlwaysYields steps v w rest
    three_left w c third =
        let m = two_left in
        let n = one_left steps v m.0 u w c m.2 third in
        (n.0, m.1 ∙ ap (λ (l : List B). v a ∷ v b ∷ l) n.1, n.2)

    pub three_words : (w x : S) (c : A) → steps u (Some c) w → steps w None x → ts ≡ v a ∷ v b ∷ v c ∷ []
    three_words w x c third end = let m = three_left w c third in m.1 ∙ ap (λ (l : List B). v a ∷ v b ∷ v c ∷ l) (none_left steps v m.0 w x m.2 end)

    pub more_words : (w x : S) (c d : A) → steps u (Some c) w → steps w (Some d) x → (rest : List B) × (ts ≡ v a ∷ v b ∷ v c ∷ v d ∷ rest)
    more_words w x c d third fourth =
        let m = three_left w c third in
        let n = one_left steps v m.0 w x d m.2 fourth in
        (n.0, m.1 ∙ ap (λ (l : List B). v a ∷ v b ∷ v c ∷ l) n.1)
