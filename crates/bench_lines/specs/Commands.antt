-- The commands of the bench program. The words in quotes are document 01's. A text is a list of bytes.
use Rattle.std.specs.Prelude.{ℕ, ◌-◌, Bool, cond, ◌&&◌, Option, Some, None, List, [], ◌∷◌, length, take, drop, leb, ltb}
use Rattle.std.specs.Str.{bytes_eq}
use Rattle.memory_structs.specs.Range.{range}
use Rattle.model.specs.declared.Kind.TheVariants.{General, Reserved}
use Rattle.lines.specs.Words.{decimal_of, words_of_line, reserved_text}
use Rattle.bench_lines.specs.declared.Command.{Command}
use Rattle.bench_lines.specs.declared.Command.TheVariants.{Collect, Boot, Sort, Count, At, Give, Lists}

-- "("
abbrev pub opening_text : List ℕ
opening_text = 40 ∷ []

-- ")"
abbrev pub closing_text : List ℕ
closing_text = 41 ∷ []

-- "free"
abbrev pub free_text : List ℕ
free_text = 102 ∷ 114 ∷ 101 ∷ 101 ∷ []

-- "boot"
abbrev pub boot_text : List ℕ
boot_text = 98 ∷ 111 ∷ 111 ∷ 116 ∷ []

-- "sort"
abbrev pub sort_text : List ℕ
sort_text = 115 ∷ 111 ∷ 114 ∷ 116 ∷ []

-- "count"
abbrev pub count_text : List ℕ
count_text = 99 ∷ 111 ∷ 117 ∷ 110 ∷ 116 ∷ []

-- "at"
abbrev pub at_text : List ℕ
at_text = 97 ∷ 116 ∷ []

-- "give"
abbrev pub give_text : List ℕ
give_text = 103 ∷ 105 ∷ 118 ∷ 101 ∷ []

-- "list"
abbrev pub list_text : List ℕ
list_text = 108 ∷ 105 ∷ 115 ∷ 116 ∷ []

-- "`(boot)`, `(sort)`", "`(list)`"
unfoldable pub alone : List ℕ → Option Command
alone name =
    cond (bytes_eq name boot_text) (Some Boot)
    (cond (bytes_eq name sort_text) (Some Sort)
    (cond (bytes_eq name list_text) (Some Lists) None))

-- "`(count N)`"
unfoldable pub one_number : List ℕ → ℕ → Option Command
one_number name n = cond (bytes_eq name count_text) (Some (Count n)) None

-- "`(free S E)`, `(reserved S E)`", "`(at S N)`, `(give S E)`"
unfoldable pub two_numbers : List ℕ → ℕ → ℕ → Option Command
two_numbers name a b =
    cond (bytes_eq name free_text) (Some (Collect (record { start = a; end = b; kind = General })))
    (cond (bytes_eq name reserved_text) (Some (Collect (record { start = a; end = b; kind = Reserved })))
    (cond (bytes_eq name at_text) (Some (At a b))
    (cond (bytes_eq name give_text) (Some (Give (range a b))) None)))

unfoldable pub with_one : List ℕ → Option ℕ → Option Command
with_one name (Some n) = one_number name n
with_one name None = None

unfoldable pub with_two : List ℕ → Option ℕ → Option ℕ → Option Command
with_two name (Some a) (Some b) = two_numbers name a b
with_two name (Some a) None = None
with_two name None second = None

-- a name, and the numbers that its command has: "Numbers are decimal digits below 2^64, parted by one space."
unfoldable pub command_in : List (List ℕ) → Option Command
command_in [] = None
command_in (name ∷ []) = alone name
command_in (name ∷ a ∷ []) = with_one name (decimal_of a)
command_in (name ∷ a ∷ b ∷ []) = with_two name (decimal_of a) (decimal_of b)
command_in (name ∷ a ∷ b ∷ c ∷ words) = None

-- "bracket forms, one a line": the first byte opens the form, and the last one, another byte, closes it
unfoldable pub is_form : List ℕ → Bool
is_form line =
    leb 2 (length line) && (bytes_eq (take 1 line) opening_text && bytes_eq (drop (length line - 1) line) closing_text)

-- what stands between the brackets
abbrev pub in_brackets : List ℕ → List ℕ
in_brackets line = take ((length line - 1) - 1) (drop 1 line)

-- the command of a line, and none of any other: "anything else, or a line above 128 bytes, prints `(bad)`"
unfoldable pub command_of : List ℕ → Option Command
command_of line = cond (ltb 128 (length line)) None (cond (is_form line) (command_in (words_of_line (in_brackets line))) None)
