-- `leave_two`: the part before stands where the first pair stood; the part after is rewritten or goes in after it.
use native.Mathlib.Omega.{arith}
use mathlib.Core.Path.{◌≡◌, ◌∙◌}
use Prim.Native.Nat.{◌+◌, ◌-◌}
use Rattle.memory_structs.specs.Range.{range}
use Rattle.model.proofs.Stored.{table_length}
use Rattle.tables.proofs.Stores.{table_inserted}
use Rattle.request_grants.proofs.Grant.{part_before, part_after}
use Rattle.request_grants.proofs.Rewritten.{pair_as, rewritten_table, then_left, still_rising, put_after_holds}
use Rattle.request_grants.proofs.leave_two.Goals as goal

pub replace_at-requires : goal.replace_at-requires
replace_at-requires c = let a = c.args in record {
  table = c.requires.table;
  i_lt_len = omega (arith, c.requires.chooses.some, c.requires.chooses.in_list, table_length a.len a.t.now);
}

pub insert-requires : goal.insert-requires
insert-requires c = let a = c.args in
    let w = pair_as a.len a.chosen.first a.t.now (c.below-before.ensures ∙ part_before a.chosen.range a.asked.start c.requires.start_lt_start.0) c.replace_at.ensures in
    let single = c.if-chosen-eq1.true in
    let t = rewritten_table a.len a.chosen.first (range a.chosen.range.start (a.asked.start - 1)) a.t.now _ c.requires.table w in record {
      len_in_bounds = omega (arith, single, c.requires.start_lt_start, t.size);
      t_value = still_rising a.len a.chosen a.asked a.t.now _ c.requires.table c.requires.t_value c.requires.chooses c.requires.start_lt_start.0 c.requires.start_lt_start.1 single w;
    }

pub returns-then-chosen-eq1 : goal.returns-then-chosen-eq1
returns-then-chosen-eq1 c = let a = c.args in
    let w = pair_as a.len a.chosen.first a.t.now (c.below-before.ensures ∙ part_before a.chosen.range a.asked.start c.requires.start_lt_start.0) c.replace_at.ensures in
    let rest : c.above-after.result ≡ range (a.asked.end + 1) a.chosen.range.end = c.above-after.ensures ∙ part_after a.chosen.range a.asked.end c.requires.start_lt_start.1 in
    let t = rewritten_table a.len a.chosen.first (range a.chosen.range.start (a.asked.start - 1)) a.t.now _ c.requires.table w in
    put_after_holds a.len a.chosen a.asked a.t.now _ c.requires.table c.requires.t_value c.requires.chooses c.requires.start_lt_start.0 c.requires.start_lt_start.1 c.if-chosen-eq1.true w _
    (rw rest at (c.insert.ensures) ∙ table_inserted t (omega (arith, c.if-chosen-eq1.true, c.requires.start_lt_start)) (range (a.asked.end + 1) a.chosen.range.end))

pub overflow_add-chosen : goal.overflow_add-chosen
overflow_add-chosen c = omega (arith, c.requires.table.fits, c.requires.chooses.in_list, table_length c.args.len c.args.t.now)

pub leave_one-requires : goal.leave_one-requires
leave_one-requires c = let a = c.args in
    let w = pair_as a.len a.chosen.first a.t.now (c.below-before.ensures ∙ part_before a.chosen.range a.asked.start c.requires.start_lt_start.0) c.replace_at.ensures in
    record {
      table = rewritten_table a.len a.chosen.first (range a.chosen.range.start (a.asked.start - 1)) a.t.now _ c.requires.table w;
      many_nonzero = omega (arith, c.if-chosen-eq1.false, c.requires.chooses.some, c.requires.chooses.in_list, table_length a.len a.t.now);
    }

pub returns : goal.returns
returns c = let a = c.args in
    let w = pair_as a.len a.chosen.first a.t.now (c.below-before.ensures ∙ part_before a.chosen.range a.asked.start c.requires.start_lt_start.0) c.replace_at.ensures in
    let rest : c.above-after.result ≡ range (a.asked.end + 1) a.chosen.range.end = c.above-after.ensures ∙ part_after a.chosen.range a.asked.end c.requires.start_lt_start.1 in
    then_left a.len a.chosen.first (range a.chosen.range.start (a.asked.start - 1)) a.t.now _ c.requires.table w a.chosen.many c.requires.chooses.some
    (omega (arith, c.requires.chooses.in_list, table_length a.len a.t.now)) _ (range (a.asked.end + 1) a.chosen.range.end) _ (rw rest at (c.leave_one.ensures))
