-- The lines of a text, one after another, and of a text that comes in parts.
use Prim.Native.Nat.{ℕ}
use mathlib.Core.Path.{◌≡◌, refl, ap}
use mathlib.Core.Bool.{Bool, true, false, cond}
use mathlib.Core.List.{List, [], ◌∷◌, ◌++◌}
use lib.Dec.{eqb}
use Rattle.bench_lines.specs.Lines.{lines_from, rest_from}

-- a text that comes in two parts
pub lines_append : (came text more : List ℕ) → lines_from came (text ++ more) ≡ lines_from came text ++ lines_from (rest_from came text) more
unfolding lines_from rest_from
lines_append came [] more = refl
lines_append came (b ∷ text) more = go (eqb b 10) (lines_append [] text more) (lines_append (came ++ (b ∷ [])) text more)
  where
    go : (t : Bool) →
        lines_from [] (text ++ more) ≡ lines_from [] text ++ lines_from (rest_from [] text) more →
        lines_from (came ++ (b ∷ [])) (text ++ more) ≡ lines_from (came ++ (b ∷ [])) text ++ lines_from (rest_from (came ++ (b ∷ [])) text) more →
        cond t (came ∷ lines_from [] (text ++ more)) (lines_from (came ++ (b ∷ [])) (text ++ more))
        ≡ cond t (came ∷ lines_from [] text) (lines_from (came ++ (b ∷ [])) text) ++ lines_from (cond t (rest_from [] text) (rest_from (came ++ (b ∷ [])) text)) more
    go true ends goes = ap (◌∷◌ came) ends
    go false ends goes = goes

pub rest_append : (came text more : List ℕ) → rest_from came (text ++ more) ≡ rest_from (rest_from came text) more
unfolding rest_from
rest_append came [] more = refl
rest_append came (b ∷ text) more = go (eqb b 10) (rest_append [] text more) (rest_append (came ++ (b ∷ [])) text more)
  where
    go : (t : Bool) →
        rest_from [] (text ++ more) ≡ rest_from (rest_from [] text) more →
        rest_from (came ++ (b ∷ [])) (text ++ more) ≡ rest_from (rest_from (came ++ (b ∷ [])) text) more →
        cond t (rest_from [] (text ++ more)) (rest_from (came ++ (b ∷ [])) (text ++ more))
        ≡ rest_from (cond t (rest_from [] text) (rest_from (came ++ (b ∷ [])) text)) more
    go true ends goes = ends
    go false ends goes = goes
