-- The held list's runs in the shape of their code. The words in quotes are document 01's.
use Rattle.std.specs.Prelude.{ℕ, ◌+◌, ◌-◌, ◌*◌, ◌≡◌, Bool, true, false, List, [], length, get_or, set, leb, ltb, eqb}
use Rattle.std.specs.Prelude.{if◌then◌else◌, Option, None, Some}
use Rattle.model.specs.Lists.{Lists, Slot}
use Rattle.model.specs.Queries.{held_list, written}

-- lists with these general regions and these free chunks, and no others: all that says which frames are held
unfoldable pub two_tables : List Slot → List Slot → Lists
two_tables regions chunks =
    record { sorted = true; general_free = chunks; reserved_free = []; general_regions = regions; reserved_regions = [] }

-- "as pairs of words; buffer words after the last pair keep their values", and how many
pub record HeldWritten (l : Lists) (count : ℕ) (before after : List ℕ) : Type 0 where
  pub counted : count ≡ length (held_list l)
  pub buffer : after ≡ written (held_list l) before

-- where the pair at j starts, where there is one
unfoldable pub next_start : ℕ → List ℕ → ℕ → Option ℕ
next_start n ws j = if ltb j n then Some (get_or ws (2 * j) 0) else None

-- the last of n pairs of words ends just below the frame
unfoldable pub touches : ℕ → ℕ → List ℕ → Bool
touches n f ws = if eqb n 0 then false else eqb (get_or ws (2 * n - 1) 0 + 1) f

-- "maximal runs": frames that touch the last run belong to it. How many runs there are, and their words, with the frames from s up
-- to e, not included.
unfoldable pub put_count : ℕ → ℕ → ℕ → List ℕ → ℕ
put_count n s e ws = if leb e s then n else if touches n s ws then n else n + 1

unfoldable pub put_words : ℕ → ℕ → ℕ → List ℕ → List ℕ
put_words n s e ws =
    if leb e s then ws else
    if touches n s ws then set ws (2 * n - 1) (e - 1) else
    set (set ws (2 * n) s) (2 * n + 1) (e - 1)
