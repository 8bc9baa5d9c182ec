-- One of the four lists, in its part of the entries, in either form.
use Rattle.std.specs.Prelude.{ℕ, ◌≤◌, ◌≡◌, Bool, true, false, List, length}
use Rattle.model.specs.Rules.{tidy}
use Rattle.lists.specs.declared.Part.{Part}
use Rattle.model.specs.Lists.{Slot}
use Rattle.model.specs.Store.{table_slots, slot_words, table_words, length_in}
use Rattle.pairs.specs.Pairs.{pair_slots}

-- the words of its part: "four tables of 512 pairs", or 32 pairs
unfoldable pub width : Bool → ℕ
width true = 1024
width false = 64

-- its slots
unfoldable pub pairs_in : Bool → ℕ → List ℕ → List Slot
pairs_in true n ws = table_slots n ws
pairs_in false n ws = pair_slots 32 ws

-- the words that store slots
unfoldable pub part_words : Bool → List Slot → List ℕ
part_words true s = table_words s
part_words false s = slot_words s

-- the part stores its slots and nothing else, and the length is theirs: "0 in early form"
pub record IsPart (b : Bool) (n : ℕ) (ws : List ℕ) : Type 0 where
  pub size : length ws ≡ width b
  pub few : n ≤ 512
  pub stored : part_words b (pairs_in b n ws) ≡ ws
  pub len : length_in b (pairs_in b n ws) ≡ n

-- what an operation leaves: the length and every word of the part
pub record Stored (b : Bool) (s : List Slot) (n : ℕ) (after : List ℕ) : Type 0 where
  pub len : n ≡ length_in b s
  pub words : after ≡ part_words b s

-- a list by its form and length, and the words that are lent: its slots, and that the words store them and nothing else
abbrev pub part_slots : Part → List ℕ → List Slot
part_slots p ws = pairs_in p.sorted p.len ws

abbrev pub HoldsPart : Part → List ℕ → Type 0
HoldsPart p ws = IsPart p.sorted p.len ws

-- and the list keeps the rules of one list
pub record IsTidy (p : Part) (ws : List ℕ) : Type 0 where
  pub part : HoldsPart p ws
  pub keeps : tidy p.sorted (part_slots p ws) ≡ true
