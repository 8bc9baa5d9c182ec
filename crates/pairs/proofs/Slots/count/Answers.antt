-- `count`: at each turn n of the first i slots are used.
use mathlib.Core.Path.{◌≡◌, sym, ap, ◌∙◌}
use Prim.Native.Nat.{◌+◌, ◌≤◌}
use lib.ListN.{length}
use borrow.Author.Tests.{ltb-true, ltb-false}
use Rattle.memory_structs.specs.Range.{is_empty}
use Rattle.tables.specs.Words.{pair_at}
use Rattle.pairs.proofs.Turns.{left, one_used, none_used_holds, none_left}
use native.Mathlib.Omega.{arith}
use Rattle.pairs.proofs.Slots.count.Goals as goal
use Rattle.pairs.proofs.Slots.count.Goals.{else-not-is_empty, then-not-is_empty}

pub loop-i-preserved : goal.loop-i-preserved
loop-i-preserved c = let t = c.args.self.words.now in
    let i = c.loop-i.i in
    let empty : c.is_empty.result ≡ is_empty (pair_at t i) = c.is_empty.ensures ∙ ap is_empty c.entry.ensures in
    let n : (c.if-not-is_empty.n ≤ i + 1) × (length (left 0 t) ≡ c.if-not-is_empty.n + length (left (i + 1) t))
    = elim c.if-not-is_empty.branch [
      | then-not-is_empty w ↦ let e : c.if-not-is_empty.n ≡ c.loop-i.n + 1 = w.n-is in omega (arith, ap length (one_used t i (omega arith) (ltb-false _ _ (sym empty ∙ w.if-not-is_empty.true))))
      | else-not-is_empty w ↦ let e : c.if-not-is_empty.n ≡ c.loop-i.n = w.n-is in omega (arith, ap length (none_used_holds t i (omega arith) (ltb-true _ _ (sym empty ∙ w.if-not-is_empty.false))))
    ] in
    (omega arith, n.0, n.1)

pub returns : goal.returns
returns c = omega (arith, ap length (none_left c.args.self.words.now c.loop-i.i (omega arith)))
