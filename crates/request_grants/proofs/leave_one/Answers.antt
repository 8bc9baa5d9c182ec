-- `leave_one`: the first pair is rewritten, the others are taken out.
use native.Mathlib.Omega.{arith}
use Rattle.request_grants.proofs.Rewritten.{rewritten_table, one_left, others_removed}
use Rattle.request_grants.proofs.leave_one.Goals as goal

pub returns-then-many-eq1 : goal.returns-then-many-eq1
returns-then-many-eq1 c = let a = c.args in
    one_left a.len a.first (a.left) a.t.now _ c.requires.table c.replace_at.ensures a.many c.if-many-eq1.true c.requires.many_nonzero.1

pub remove_at-requires : goal.remove_at-requires
remove_at-requires c = let a = c.args in record {
  table = rewritten_table a.len a.first (a.left) a.t.now _ c.requires.table c.replace_at.ensures;
  k_bound = omega (arith, c.requires.many_nonzero);
}

pub returns : goal.returns
returns c = let a = c.args in
    others_removed a.len a.first (a.left) a.t.now _ c.requires.table c.replace_at.ensures a.many c.requires.many_nonzero.0 c.requires.many_nonzero.1 _
    c.remove_at.ensures
