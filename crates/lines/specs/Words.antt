-- The words of a line, the numbers that they stand for, and where these go. A text is a list of bytes.
use Rattle.std.specs.Prelude.{ℕ, ◌≡◌, ◌+◌, ◌*◌, ◌-◌, ◌^◌, ◌%◌, Bool, true, false, cond, ◌&&◌, List, [], ◌∷◌, Option, Some, None, Result, length, set, ltb, eqb, ◌==◌}
use Rattle.std.specs.List.{slice_split}
use Rattle.std.specs.Bool.{then_some}
use Rattle.std.specs.Option.{option_map, ok_or}
use Rattle.std.specs.Str.{bytes_eq, all_ascii_digits}
use Rattle.lines.specs.declared.Layout.{Layout}
use Rattle.lines.specs.declared.Unread.{Unread}
use Rattle.lines.specs.declared.Layout.TheVariants.{Numbers, Areas}
use Rattle.model.specs.Words.{word_of}
use Rattle.model.specs.declared.Kind.{Kind}
use Rattle.model.specs.declared.Kind.TheVariants.{General, Reserved}

-- the number that digits write after those of n, from the left: 48 is "0"
unfoldable pub value_after : ℕ → List ℕ → ℕ
value_after n [] = n
value_after n (b ∷ bs) = value_after (n * 10 + (b - 48)) bs

-- the number that the text is in decimal: one digit or more and nothing else, below 2^64
unfoldable pub decimal_of : List ℕ → Option ℕ
decimal_of bs = cond (all_ascii_digits bs && (ltb 0 (length bs) && ltb (value_after 0 bs) (2 ^ 64))) (Some (value_after 0 bs)) None

-- the words of a text, parted by one space each, which is 32: a text with no space is one word, which may be empty
abbrev pub words_of_line : List ℕ → List (List ℕ)
words_of_line t = slice_split (λ b. b == 32) t

-- the words of what follows a name: none, or a space and the words
unfoldable pub words_left : List ℕ → List (List ℕ)
words_left [] = []
words_left (space ∷ bs) = words_of_line bs

-- "general"
abbrev pub general_text : List ℕ
general_text = 103 ∷ 101 ∷ 110 ∷ 101 ∷ 114 ∷ 97 ∷ 108 ∷ []

-- "reserved"
abbrev pub reserved_text : List ℕ
reserved_text = 114 ∷ 101 ∷ 115 ∷ 101 ∷ 114 ∷ 118 ∷ 101 ∷ 100 ∷ []

-- the kind that a text names
unfoldable pub kind_named : List ℕ → Option Kind
kind_named t = cond (bytes_eq t general_text) (Some General) (cond (bytes_eq t reserved_text) (Some Reserved) None)

-- an area is two numbers and a kind, as boot takes it: the third word stands for the kind
unfoldable pub word_of_area : ℕ → List ℕ → Option ℕ
word_of_area place t = cond (eqb (place % 3) 2) (option_map word_of (kind_named t)) (decimal_of t)

-- what a word stands for by its place
unfoldable pub number_at : Layout → ℕ → List ℕ → Option ℕ
number_at Numbers place t = decimal_of t
number_at Areas place t = word_of_area place t

-- how many numbers went to the lent words so far, whether each word was one and had room, and the lent words
pub record Filled : Type 0 where
  pub len : ℕ
  pub valid : Bool
  pub numbers : List ℕ

abbrev pub filled : ℕ → Bool → List ℕ → Filled
filled n v ws = record { len = n; valid = v; numbers = ws }

-- a number goes to the next place, where there is one; what is no number, or has no place, is not counted
unfoldable pub put_number : Option ℕ → Filled → Filled
put_number (Some n) p = cond (ltb p.len (length p.numbers)) (filled (p.len + 1) p.valid (set p.numbers p.len n)) (filled p.len false p.numbers)
put_number None p = filled p.len false p.numbers

-- the number of each text, in turn
unfoldable pub put_all : Layout → List (List ℕ) → Filled → Filled
put_all l [] p = p
put_all l (t ∷ ts) p = put_all l ts (put_number (number_at l p.len t) p)

-- the words of what follows a name, put from the first place on
abbrev pub read_after : Layout → List ℕ → List ℕ → Filled
read_after l text ws = put_all l (words_left text) (filled 0 true ws)

-- areas, the last of them whole
abbrev pub whole_areas : Filled → Filled
whole_areas p = filled p.len (p.valid && eqb (p.len % 3) 0) p.numbers

-- how many numbers there are, where each word was one and had room; else how many were put all the same
abbrev pub outcome : Bool → ℕ → Result ℕ Unread
outcome valid n = ok_or (then_some valid n) (record { put = n })

-- that is answered, and the lent words hold those that were put in any case
pub record Reads (p : Filled) (answer : Result ℕ Unread) (ws : List ℕ) : Type 0 where
  pub count : answer ≡ outcome p.valid p.len
  pub numbers : ws ≡ p.numbers
