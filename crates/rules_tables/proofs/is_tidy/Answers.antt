-- `is_tidy`: the pairs passed have frames, each above the one before it.
use native.Mathlib.Omega.{arith}
use mathlib.Core.Path.{◌≡◌, sym, subst}
use Prim.Native.Nat.{ℕ, ◌≤◌}
use Rattle.rules_tables.proofs.Spacing.{InOrder, order_one, order_more, order_tidy, not_filled, not_above_holds, none_tidy}
use Rattle.rules_tables.proofs.is_tidy.Goals as goal

pub returns-then-table-eq0 : goal.returns-then-table-eq0
returns-then-table-eq0 c = none_tidy c.args.table.len c.args.table.words.now c.if-table-eq0.true

pub returns-then-table : goal.returns-then-table
returns-then-table c = let a = c.args in
    sym (not_filled a.table.len a.table.words.now 0 (omega arith) c.if-table.true)

pub loop-i-init : goal.loop-i-init
loop-i-init c = order_one c.args.table.words.now c.if-table.false

pub returns-then-table-i : goal.returns-then-table-i
returns-then-table-i c = let a = c.args in
    sym (not_above_holds a.table.len a.table.words.now c.loop-i.i (omega arith) (omega arith) (omega arith))

pub returns-then-table-i-2 : goal.returns-then-table-i-2
returns-then-table-i-2 c = let a = c.args in
    sym (not_filled a.table.len a.table.words.now c.loop-i.i (omega arith) c.if-table-i-2.true)

pub loop-i-preserved : goal.loop-i-preserved
loop-i-preserved c = order_more c.loop-i.i c.args.table.words.now c.loop-i.invariant c.if-table-i-2.false c.if-table-i.false

pub returns : goal.returns
returns c = let a = c.args in
    let some : 1 ≤ a.table.len = omega arith in
    let e : c.loop-i.i ≡ a.table.len = omega (arith, c.loop-i.auto.i-end some) in
    order_tidy a.table.len a.table.words.now some c.requires (subst (λ (k : ℕ). InOrder k a.table.words.now) e c.loop-i.invariant)
