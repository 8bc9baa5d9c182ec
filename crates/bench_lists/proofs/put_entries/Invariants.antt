-- `put_entries`: at each turn the entries from the slot i on are left.
use lib.ListN.{drop}
use Rattle.model.specs.Lists.{entries}
use Rattle.lists.specs.Listed.{list_slots}
use Rattle.bench_lists.proofs.Going.{Going}
use Rattle.bench_lists.proofs.put_entries.Given as goal

abbrev pub invariant-loop-i : goal.invariant-loop-i
invariant-loop-i g l = Going (entries (list_slots l.list)) (entries (drop l.i (list_slots l.list))) l.initial.out.items l.i l.out.items
