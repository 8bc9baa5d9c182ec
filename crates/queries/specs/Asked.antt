-- A record that the test lets a question read.
use Rattle.std.specs.Prelude.{ℕ, ◌≡◌, List, Ok}
use Rattle.model.specs.Store.{load}
use Rattle.model.specs.declared.FrameAllocator.{FrameAllocator}
use Rattle.lists.specs.Listed.{lists_of}
use Rattle.lists.specs.declared.four_lists.FourLists.{FourLists}
use Rattle.rules.specs.Check.{verdict}

-- neither 3 nor 11, and the lists are the record's
pub record MayRead (a : FrameAllocator) (ws : List ℕ) (l : FourLists) : Type 0 where
  pub passes : verdict a ws ≡ Ok tt
  pub loads : lists_of l ≡ load a ws
