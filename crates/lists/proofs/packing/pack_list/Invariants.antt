-- `pack_list`: at each turn the first i pairs are written.
use mathlib.Core.Path.{◌≡◌}
use lib.ListN.{length}
use Rattle.lists.proofs.Turns.{packed_to}
use Rattle.lists.proofs.packing.pack_list.Given as goal

abbrev pub invariant-loop-i : goal.invariant-loop-i
invariant-loop-i l = record { size : length l.t ≡ 64; packed : l.t ≡ packed_to l.i l.list.starts l.list.ends l.initial.t }
