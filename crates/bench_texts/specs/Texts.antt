-- What the bench program writes. The words in quotes are document 01's, or the bytes of a text; a line ends with byte 10, "\n".
use Rattle.std.specs.Prelude.{ℕ, zero, suc, ◌+◌, ◌/◌, ◌%◌, cond, List, [], ◌∷◌, ◌++◌, ltb, eqb}
use Rattle.memory_structs.specs.Range.{is_empty}
use Rattle.memory_structs.specs.declared.range.FrameRange.{FrameRange}
use Rattle.model.specs.declared.Answer.{Answer}

-- a number in k decimal digits at most: below ten its digit, where 48 is "0"; else its tenth part's digits and its last one
unfoldable pub digits_text : ℕ → ℕ → List ℕ
digits_text zero n = []
digits_text (suc k) n = cond (ltb n 10) ((48 + n) ∷ []) (digits_text k (n / 10) ++ ((48 + n % 10) ∷ []))

-- 20 digits are enough below 2^64: `read_back` (proofs/Decimal) says that reading the text gives the number back
abbrev pub decimal_text : ℕ → List ℕ
decimal_text n = digits_text 20 n

-- " "
abbrev pub space_text : List ℕ
space_text = 32 ∷ []

-- "(done)\n"
abbrev pub done_line : List ℕ
done_line = 40 ∷ 100 ∷ 111 ∷ 110 ∷ 101 ∷ 41 ∷ 10 ∷ []

-- "(bad)\n"
abbrev pub bad_line : List ℕ
bad_line = 40 ∷ 98 ∷ 97 ∷ 100 ∷ 41 ∷ 10 ∷ []

-- "(grant "
abbrev pub grant_text : List ℕ
grant_text = 40 ∷ 103 ∷ 114 ∷ 97 ∷ 110 ∷ 116 ∷ 32 ∷ []

-- "(no "
abbrev pub no_text : List ℕ
no_text = 40 ∷ 110 ∷ 111 ∷ 32 ∷ []

-- ")\n"
abbrev pub line_end_text : List ℕ
line_end_text = 41 ∷ 10 ∷ []

-- "S and E are first and last frame", parted by one space, between two texts
unfoldable pub range_text : List ℕ → FrameRange → List ℕ → List ℕ
range_text opening r closing = opening ++ (decimal_text r.start ++ (space_text ++ (decimal_text r.end ++ closing)))

-- "`(no N)` with the refusal"
unfoldable pub refusal_line : ℕ → List ℕ
refusal_line n = no_text ++ (decimal_text n ++ line_end_text)

-- "others print `(done)`, `(grant S E)` or `(no N)`": an answer that is no refusal grants the range that it holds, if that has a frame
unfoldable pub answer_line : Answer → List ℕ
answer_line a =
    cond (eqb a.number 0)
    (cond (is_empty a.range) done_line (range_text grant_text a.range line_end_text))
    (refusal_line a.number)
