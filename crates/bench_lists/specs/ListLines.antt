-- A list's line. The words in quotes are document 01's, or the bytes of a text.
use Rattle.std.specs.Prelude.{ℕ, ◌+◌, List, [], ◌∷◌, ◌++◌}
use Rattle.memory_structs.specs.declared.range.FrameRange.{FrameRange}
use Rattle.model.specs.Lists.{Lists, entries}
use Rattle.lists.specs.Whole.{slots_at}
use Rattle.lists.specs.declared.header.WhichList.{WhichList}
use Rattle.lists.specs.declared.header.WhichList.TheVariants.{GeneralFree, ReservedFree, GeneralRegions, ReservedRegions}
use Rattle.bench_texts.specs.Texts.{range_text, line_end_text}

-- "(general-free"
abbrev pub general_free_text : List ℕ
general_free_text = 40 ∷ 103 ∷ 101 ∷ 110 ∷ 101 ∷ 114 ∷ 97 ∷ 108 ∷ 45 ∷ 102 ∷ 114 ∷ 101 ∷ 101 ∷ []

-- "(reserved-free"
abbrev pub reserved_free_text : List ℕ
reserved_free_text = 40 ∷ 114 ∷ 101 ∷ 115 ∷ 101 ∷ 114 ∷ 118 ∷ 101 ∷ 100 ∷ 45 ∷ 102 ∷ 114 ∷ 101 ∷ 101 ∷ []

-- "(general-regions"
abbrev pub general_regions_text : List ℕ
general_regions_text = 40 ∷ 103 ∷ 101 ∷ 110 ∷ 101 ∷ 114 ∷ 97 ∷ 108 ∷ 45 ∷ 114 ∷ 101 ∷ 103 ∷ 105 ∷ 111 ∷ 110 ∷ 115 ∷ []

-- "(reserved-regions"
abbrev pub reserved_regions_text : List ℕ
reserved_regions_text = 40 ∷ 114 ∷ 101 ∷ 115 ∷ 101 ∷ 114 ∷ 118 ∷ 101 ∷ 100 ∷ 45 ∷ 114 ∷ 101 ∷ 103 ∷ 105 ∷ 111 ∷ 110 ∷ 115 ∷ []

-- " ("
abbrev pub entry_opening : List ℕ
entry_opening = 32 ∷ 40 ∷ []

-- ")"
abbrev pub entry_closing : List ℕ
entry_closing = 41 ∷ []

-- " (S E)"
abbrev pub entry_text : FrameRange → List ℕ
entry_text r = range_text entry_opening r entry_closing

-- "in stored order"
unfoldable pub entries_text : List FrameRange → List ℕ
entries_text [] = []
entries_text (r ∷ rs) = entry_text r ++ entries_text rs

-- the bracket and the name
unfoldable pub name_text : WhichList → List ℕ
name_text GeneralFree = general_free_text
name_text ReservedFree = reserved_free_text
name_text GeneralRegions = general_regions_text
name_text ReservedRegions = reserved_regions_text

-- "`(list)` prints the four lists in stored order, an empty one as its bare name in brackets."
unfoldable pub list_line : WhichList → List FrameRange → List ℕ
list_line w rs = name_text w ++ (entries_text rs ++ line_end_text)

-- the line of one of a record's lists
abbrev pub line_of : WhichList → Lists → List ℕ
line_of w l = list_line w (entries (slots_at w l))

-- the places that an entry takes at most: two numbers of 20 digits, a space before, one between, and the brackets
abbrev pub entry_room : ℕ
entry_room = 44

-- and 512 of them
abbrev pub entries_room : ℕ
entries_room = 22528

-- and a line: the longest name with its bracket, and the end
abbrev pub line_room : ℕ
line_room = 17 + entries_room + 2
