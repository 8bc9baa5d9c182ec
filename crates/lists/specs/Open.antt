-- An allocator that stands open: a header by value, 256 words of slots and the workspace. The words in quotes are document 01's.
use Rattle.std.specs.Prelude.{ℕ, ◌≡◌, Bool, true, false, not, List}
use Rattle.model.specs.Lists.{Lists}
use Rattle.model.specs.Requests.{Result}
use Rattle.lists.specs.Whole.{lists_in, Does}
use Rattle.lists.specs.declared.header.Header.{Header}
use Rattle.lists.specs.declared.header.HandedBack.{HandedBack}

-- its entries: the workspace in sorted form, the slots in early form
unfoldable pub lent : Bool → (slots ws : List ℕ) → List ℕ
lent true slots ws = ws
lent false slots ws = slots

-- what a call on it does: to the entries what the lists say, and to the others nothing ("Early form doesn't read or write the workspace")
pub record DoesOpen (f : Lists → Result) (h : Header) (slots ws : List ℕ) (d : HandedBack) (slots_after ws-after : List ℕ) : Type 0 where
  pub does : Does (f (lists_in h (lent h.sorted slots ws))) (lent h.sorted slots ws) d (lent h.sorted slots_after ws-after)
  pub kept : lent (not h.sorted) slots_after ws-after ≡ lent (not h.sorted) slots ws
