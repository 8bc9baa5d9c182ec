-- A request to one list: what is left over has no place, or the grant.
use Prim.Native.Nat.{ℕ, ◌≤◌}
use mathlib.Core.Path.{◌≡◌, refl}
use mathlib.Core.Bool.{true, false}
use mathlib.Core.List.{List}
use borrow.Author.Tests.{ltb-false, le-ltb}
use Rattle.std.specs.Prelude.{None, Some}
use Rattle.memory_structs.specs.declared.range.FrameRange.{FrameRange}
use Rattle.model.specs.Lists.{bound}
use Rattle.lists.specs.declared.Part.{Part}
use Rattle.lists.specs.Part.{part_slots, Stored}
use Rattle.request_search.specs.declared.Chosen.{Chosen}
use Rattle.request_grants.specs.Grants.{grant_of, entries_left, overfull, TakesOut}

module _ (p : Part) (c : Chosen) (asked : FrameRange) (ws : List ℕ) where
  abbrev left : ℕ
  left = entries_left p.sorted c asked (part_slots p ws)

  pub without_place : overfull p.sorted c asked (part_slots p ws) ≡ true → TakesOut p.sorted c asked (part_slots p ws) ws None ws
  without_place h = (h, refl)

  pub few_left : overfull p.sorted c asked (part_slots p ws) ≡ false → left ≤ bound p.sorted
  few_left h = ltb-false (bound p.sorted) left h

  pub with_place : left ≤ bound p.sorted → {m : ℕ} {after : List ℕ} → Stored p.sorted (grant_of p.sorted c asked (part_slots p ws)) m after
      → TakesOut p.sorted c asked (part_slots p ws) ws (Some m) after
  with_place h st = (le-ltb (bound p.sorted) left h, st)
