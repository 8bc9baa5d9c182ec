-- `add_pair`: one pair more, or no place for it.
use Prim.Native.Nat.{◌+◌, ◌<◌}
use native.Mathlib.Omega.{arith}
use mathlib.Core.Path.{refl, ◌∙◌}
use Rattle.model.specs.Lists.{insert}
use Rattle.model.specs.Store.{table_slots}
use Rattle.model.proofs.Stored.{table_length}
use Rattle.tables.proofs.Search.{length_inserted}
use Rattle.tables.proofs.Stores.{table_inserted}
use Rattle.tables.proofs.Touching.{tidy_rising}
use Rattle.return_joining.proofs.Rejoined.{table_full, table_room, table_goes}
use Rattle.return_joining.proofs.add_pair.Goals as goal

pub returns-then-len-ge-ENTRIES : goal.returns-then-len-ge-ENTRIES
returns-then-len-ge-ENTRIES c = let a = c.args in (table_full a.range a.len a.t.now c.requires.t_value_2 c.if-len-ge-ENTRIES.true, refl)

pub insert-requires : goal.insert-requires
insert-requires c =
    let fits : c.args.len < 512 = omega (arith, c.if-len-ge-ENTRIES.false) in record {
      len_in_bounds = omega (arith, c.requires.table.size, fits);
      t_value = tidy_rising _ c.requires.t_value;
    }

pub returns : goal.returns
unfolding insert
returns c =
    let fits : c.args.len < 512 = omega (arith, c.if-len-ge-ENTRIES.false) in
    let a = c.args in
    let r = a.range in
    table_goes r a.len a.t.now c.requires.table (table_room r a.len a.t.now c.requires.t_value_2 fits) _ c.requires.t_value_2 (a.len + 1) _
    (omega (arith, length_inserted r (table_slots a.len a.t.now), table_length a.len a.t.now))
    (c.insert.ensures ∙ table_inserted c.requires.table fits r)
