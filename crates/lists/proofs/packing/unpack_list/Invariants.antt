-- `unpack_list`: at each turn the first i slots are written.
use mathlib.Core.Path.{◌≡◌}
use lib.ListN.{take}
use Rattle.model.specs.Store.{Arrays}
use Rattle.lists.proofs.Turns.{starts_of, ends_of, flags_of}
use Rattle.lists.proofs.packing.unpack_list.Given as goal

abbrev pub invariant-loop-i : goal.invariant-loop-i
invariant-loop-i l = record {
  sizes : Arrays l.list;
  starts : take l.i l.list.starts ≡ take l.i (starts_of l.t);
  ends : take l.i l.list.ends ≡ take l.i (ends_of l.t);
  used : take l.i l.list.used ≡ take l.i (flags_of l.t);
}
