-- Whether there is a next chunk.
use Prim.Native.Nat.{ℕ, ◌*◌, ◌<◌}
use mathlib.Core.Path.{◌≡◌, refl}
use mathlib.Core.Bool.{Bool, true, false}
use mathlib.Core.List.{List}
use lib.ListN.{get_or}
use lib.Dec.{ltb}
use borrow.Author.Tests.{ltb-true, lt-ltb}
use Rattle.std.specs.Prelude.{if◌then◌else◌, Option, None, Some}
use Rattle.query_held.specs.Runs.{next_start}

-- the next chunk
module _ (n : ℕ) (ws : List ℕ) (j : ℕ) where
  pub a_chunk : j < n → next_start n ws j ≡ Some (get_or ws (2 * j) 0)
  unfolding next_start
  a_chunk h = rw (lt-ltb j n h) refl

  abbrev at : Bool → Option ℕ
  at b = if b then Some (get_or ws (2 * j) 0) else None

  pub is_chunk : {x : ℕ} → next_start n ws j ≡ Some x → (j < n) × (x ≡ get_or ws (2 * j) 0)
  unfolding next_start
  is_chunk {x} e = go (ltb j n) refl e
    where
      go : (b : Bool) → ltb j n ≡ b → at b ≡ Some x → (j < n) × (x ≡ get_or ws (2 * j) 0)
      go true t p = (ltb-true j n t, cc)
      go false t p = absurd (cc)
