-- The areas of a boot map: as structs, and as a lent list of words. The words in quotes are document 01's.
use Rattle.std.specs.Prelude.{ℕ, Bool, false, ◌||◌, List, [], ◌∷◌, map, length, ltb, Result, Ok, Err}
use Rattle.std.specs.Prelude.{if◌then◌else◌}
use Rattle.boot_carving.specs.Listed.{Ranges}
use Rattle.memory_structs.specs.Range.{range, empty, is_empty, above_top, touched, bytes_out_of_bounds}
use Rattle.memory_structs.specs.declared.range.FrameRange.{FrameRange}
use Rattle.model.specs.Lists.{any_of}
use Rattle.model.specs.Boot.{Extent, marked, reserved_of, all_pieces}
use Rattle.model.specs.declared.Area.{Area}
use Rattle.model.specs.declared.ByteArea.{ByteArea}
use Rattle.model.specs.declared.Kind.{Kind}
use Rattle.model.specs.declared.Kind.TheVariants.{General}
use Rattle.model.specs.declared.refusals.Refusal.{Refusal}
use Rattle.model.specs.declared.refusals.Refusal.TheVariants.{TooManyReservedAreas, EmptyReservedArea, OutOfBounds}
use Rattle.model.specs.Words.{kind_of_word}
use Rattle.boot_areas.specs.declared.AreaUnit.{AreaUnit}
use Rattle.boot_areas.specs.declared.AreaUnit.TheVariants.{Frames, Bytes}
use Rattle.boot_areas.specs.declared.BootArea.{BootArea}

-- three words each; one or two words that are left over are nothing
unfoldable pub triples : {A : Type 0} → (ℕ → ℕ → ℕ → A) → List ℕ → List A
triples f (x ∷ y ∷ k ∷ ws) = f x y k ∷ triples f ws
triples f (x ∷ y ∷ []) = []
triples f (x ∷ []) = []
triples f [] = []

-- "Areas come as a lent list of start, end and kind"
abbrev pub areas_in : List ℕ → List Area
areas_in ws = triples (λ s e k. record { start = s; end = e; kind = kind_of_word k }) ws

-- "A second entry takes areas as start address, byte size and kind"
abbrev pub byte_areas_in : List ℕ → List ByteArea
byte_areas_in ws = triples (λ a b k. record { address = a; bytes = b; kind = kind_of_word k }) ws

-- The same in the shape of the code: an area with its test for 2. `frames_taken` and `bytes_taken` (Laws) say that these are the
-- model's areas, and that 2 refuses where the model's test does.

unfoldable pub frame_area : ℕ → ℕ → Kind → BootArea
frame_area s e k = record { frames = range s e; kind = k; outside = above_top (range s e) }

unfoldable pub byte_area : ℕ → ℕ → Kind → BootArea
byte_area a b k = record { frames = touched a b; kind = k; outside = bytes_out_of_bounds a b }

abbrev pub boot_area : Area → BootArea
boot_area a = frame_area a.start a.end a.kind

abbrev pub boot_byte_area : ByteArea → BootArea
boot_byte_area a = byte_area a.address a.bytes a.kind

abbrev pub boot_areas : List Area → List BootArea
boot_areas areas = map boot_area areas

abbrev pub boot_byte_areas : List ByteArea → List BootArea
boot_byte_areas areas = map boot_byte_area areas

-- read of words: the areas that they are (`words_frames`, `words_bytes`)
unfoldable pub area_of : AreaUnit → ℕ → ℕ → ℕ → BootArea
area_of Frames s e k = frame_area s e (kind_of_word k)
area_of Bytes a b k = byte_area a b (kind_of_word k)

abbrev pub read : AreaUnit → List ℕ → List BootArea
read u ws = triples (area_of u) ws

-- what stands past the end of a map; it is never read
abbrev pub no_area : BootArea
no_area = record { frames = empty; kind = General; outside = false }

unfoldable pub extents : List BootArea → List Extent
extents [] = []
extents (a ∷ xs) = marked a.kind a.frames ∷ extents xs

unfoldable pub any_outside : List BootArea → Bool
any_outside [] = false
any_outside (a ∷ xs) = a.outside || any_outside xs

-- the reserved areas
abbrev pub reserved_in : List BootArea → List FrameRange
reserved_in xs = reserved_of (extents xs)

-- the pieces of the general areas
abbrev pub pieces_in : List FrameRange → List BootArea → List FrameRange
pieces_in rs xs = all_pieces rs (extents xs)

-- "5, 4, 2": the reserved areas, or what refuses a boot before any area is carved
unfoldable pub collected : List BootArea → Result Ranges Refusal
collected xs =
    if ltb 32 (length (reserved_in xs)) then Err TooManyReservedAreas else
    if any_of is_empty (reserved_in xs) then Err EmptyReservedArea else
    if any_outside xs then Err OutOfBounds else Ok (record { items = reserved_in xs })
