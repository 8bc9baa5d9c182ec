-- Calls as words, three to a call: what the call is, and two numbers. The words in quotes are document 01's.
use Rattle.std.specs.Prelude.{ℕ, ◌+◌, ◌*◌, ◌≡◌, Bool, true, List, Option, Some, None, take, drop, leb, eqb}
use Rattle.std.specs.Prelude.{if◌then◌else◌}
use Rattle.memory_structs.specs.Range.{range}
use Rattle.model.specs.Calls.{Call, sort_call, return_call, kind_call, total_call, held_call}
use Rattle.model.specs.Words.{kind_of_word}
use Rattle.boot_areas.specs.declared.AreaUnit.{AreaUnit}
use Rattle.boot_areas.specs.Boots.{boot_call_of}
use Rattle.requests.specs.Asked as asked
use Rattle.boot_areas.specs.declared.AreaUnit.TheVariants as unit
use Rattle.requests.specs.declared.Request.TheVariants.{Frames, Bytes, FramesAt, BytesAt, GeneralFramesAt}
use Rattle.run_calls.specs.declared.RunCall.{RunCall}
use Rattle.run_calls.specs.declared.RunCall.TheVariants.{Change, Keep}
use Rattle.run_calls.specs.declared.FormCall.{FormCall}
use Rattle.run_calls.specs.declared.FormCall.TheVariants.{Boot, Sort}
use Rattle.run_calls.specs.declared.OpenCall.{OpenCall}
use Rattle.run_calls.specs.declared.OpenCall.TheVariants.{Allocate, Return, KindOf, FreeTotal, HeldList}

-- so many areas from this one on, three words each, stand in a list of n words
unfoldable pub are_listed : (n first count : ℕ) → Bool
are_listed n first count = leb (3 * (first + count)) n

unfoldable pub decoded_boot : AreaUnit → (n first count : ℕ) → Option RunCall
decoded_boot u n first count = if are_listed n first count then Some (Change (Boot u first count)) else None

-- three words, beside a list of areas of n words
unfoldable pub decoded : (n what x y : ℕ) → Option RunCall
decoded n what x y =
    if eqb what 0 then decoded_boot unit.Frames n x y else
    if eqb what 1 then decoded_boot unit.Bytes n x y else
    if eqb what 2 then Some (Change Sort) else
    if eqb what 3 then Some (Keep (Allocate (Frames x))) else
    if eqb what 4 then Some (Keep (Allocate (Bytes x))) else
    if eqb what 5 then Some (Keep (Allocate (FramesAt x y))) else
    if eqb what 6 then Some (Keep (Allocate (BytesAt x y))) else
    if eqb what 7 then Some (Keep (Allocate (GeneralFramesAt x y))) else
    if eqb what 8 then Some (Keep (Return (range x y))) else
    if eqb what 9 then Some (Keep (KindOf (range x y))) else
    if eqb what 10 then Some (Keep (FreeTotal (kind_of_word x))) else
    if eqb what 11 then Some (Keep HeldList) else None

-- the words of so many areas from this one on
unfoldable pub areas_at : (first count : ℕ) → List ℕ → List ℕ
areas_at first count areas = take (3 * count) (drop (3 * first) areas)

-- document 01's call that a call of a run is, beside the lent list of areas and a held-list buffer of so many words
unfoldable pub form_call : (areas : List ℕ) → FormCall → Call
form_call areas (Boot u first count) = boot_call_of u (areas_at first count areas)
form_call areas Sort = sort_call

unfoldable pub open_call : (held_len : ℕ) → OpenCall → Call
open_call held_len (Allocate r) = asked.call_of r
open_call held_len (Return r) = return_call r
open_call held_len (KindOf r) = kind_call r
open_call held_len (FreeTotal k) = total_call k
open_call held_len HeldList = held_call held_len

unfoldable pub call_in : (areas : List ℕ) (held_len : ℕ) → RunCall → Call
call_in areas held_len (Change c) = form_call areas c
call_in areas held_len (Keep c) = open_call held_len c

-- a boot's areas are all in the list of n words; no other call has any
unfoldable pub AreasListed : ℕ → FormCall → Type 0
AreasListed n (Boot u first count) = are_listed n first count ≡ true
AreasListed n Sort = Unit {0}

unfoldable pub InList : ℕ → RunCall → Type 0
InList n (Change c) = AreasListed n c
InList n (Keep c) = Unit {0}
