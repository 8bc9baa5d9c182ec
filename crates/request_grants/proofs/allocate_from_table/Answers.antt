-- `allocate_from_table`: the four cases of what is left.
use native.Mathlib.Omega.{arith}
use Prim.Native.Nat.{◌+◌, ◌≤◌}
use mathlib.Core.Path.{sym}
use Rattle.model.specs.Store.{table_slots}
use Rattle.model.proofs.Stored.{table_length}
use Rattle.tables.proofs.Spaced.{Spaced, tidy_spaced}
use Rattle.request_grants.proofs.Grant.{grant_none}
use Rattle.request_grants.proofs.Rewritten.{all_removed, left_instead}
use Rattle.request_grants.proofs.allocate_from_table.Goals as goal

pub returns-then-chosen-asked-2 : goal.returns-then-chosen-asked-2
returns-then-chosen-asked-2 c =
    let spaced : Spaced 0 ((table_slots c.args.len c.args.t.now)) = tidy_spaced ((table_slots c.args.len c.args.t.now)) c.requires.t_value in
    let in_table : c.args.chosen.first + c.args.chosen.many ≤ c.args.len = omega (arith, c.requires.chooses.in_list, table_length c.args.len c.args.t.now) in
    let a = c.args in
    left_instead
    (sym (grant_none ((table_slots c.args.len c.args.t.now)) a.chosen a.asked spaced c.requires.chooses (omega (arith, c.if-chosen-asked.true)) (omega (arith, c.if-chosen-asked-2.true))))
    (all_removed a.len a.chosen.first a.chosen.many a.t.now _ in_table c.remove_at.ensures)
