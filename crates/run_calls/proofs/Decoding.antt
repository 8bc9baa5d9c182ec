-- Three words, read test by test.
use Prim.Native.Nat.{ℕ, ◌+◌, ◌*◌, ◌-◌, ◌≤◌, ◌<◌, ◌/◌}
use native.Mathlib.Omega.{arith}
use mathlib.Core.Path.{◌≡◌, refl, sym}
use mathlib.Core.Bool.{Bool, true, false}
use lib.Dec.{leb}
use borrow.Author.Tests.{leb-true, leb-false, le-leb, lt-leb}
use Rattle.run_calls.specs.Commands.{are_listed}

module _ (n first count : ℕ) where
  -- the areas are counted, so that nothing is added or multiplied
  pub listed_counted : first ≤ n / 3 → leb count (n / 3 - first) ≡ are_listed n first count
  unfolding are_listed
  listed_counted h = go (leb count (n / 3 - first)) refl
    where
      go : (t : Bool) → leb count (n / 3 - first) ≡ t → t ≡ leb (3 * (first + count)) n
      go true e = sym (le-leb (3 * (first + count)) n (omega (arith, leb-true)))
      go false e = sym (lt-leb (3 * (first + count)) n (omega (arith, leb-false)))

  pub listed_none : n / 3 < first → false ≡ are_listed n first count
  unfolding are_listed
  listed_none h = sym (lt-leb (3 * (first + count)) n (omega arith))
