-- Lines as they come. The words in quotes are document 01's.
use Rattle.std.specs.Prelude.{ℕ, cond, List, [], ◌∷◌, ◌++◌, take, eqb}

-- "one a line": the lines that end in a text, where these bytes of the first have come before. Byte 10 ends a line, and is no part of it.
unfoldable pub lines_from : List ℕ → List ℕ → List (List ℕ)
lines_from came [] = []
lines_from came (b ∷ text) = cond (eqb b 10) (came ∷ lines_from [] text) (lines_from (came ++ (b ∷ [])) text)

-- and what came of the line after them
unfoldable pub rest_from : List ℕ → List ℕ → List ℕ
rest_from came [] = came
rest_from came (b ∷ text) = cond (eqb b 10) (rest_from [] text) (rest_from (came ++ (b ∷ [])) text)

-- of the bytes that came the first 129 are held. `held_on` and `held_decides` (proofs/Held) say that a line may come in any parts, and
-- that 129 bytes of it decide what it is.
abbrev pub held_line : List ℕ → List ℕ
held_line came = take 129 came
