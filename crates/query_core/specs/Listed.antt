-- The held list on lists that meet the rules. The words in quotes are document 01's.
use Rattle.std.specs.Prelude.{ℕ, ◌≡◌, List}
use Rattle.model.specs.Lists.{Lists}
use Rattle.model.specs.Queries.{held_runs, held_list, written}
use Rattle.model.specs.declared.Answer.{Answer}

-- "as count [..] the number of held runs", and the runs "as pairs of words; buffer words after the last pair keep their values"
pub record Listed (l : Lists) (before : List ℕ) (x : Answer) (after : List ℕ) : Type 0 where
  pub answers : x ≡ (held_runs l).answer
  pub buffer : after ≡ written (held_list l) before
