-- `insert`: the insert of the form.
use native.Mathlib.Omega.{arith}
use mathlib.Core.Path.{sym, ◌∙◌}
use Prim.Native.Nat.{◌<◌}
use Rattle.model.specs.Lists.{insert}
use Rattle.model.specs.Rules.{slotted}
use Rattle.model.specs.Store.{table_slots}
use Rattle.model.proofs.Stored.{table_length}
use Rattle.tables.proofs.Search.{length_inserted}
use Rattle.tables.proofs.Stores.{table_inserted}
use Rattle.lists.proofs.Forms.{as_table, as_pairs, at_sorted, room, sorted_after, early_after}
use Rattle.lists.proofs.Part.insert.Goals as goal

pub insert-requires : goal.insert-requires
unfolding slotted
insert-requires c =
    let in_table : c.args.self.len < 512 = room c.requires.part c.if-self.true c.requires.t_len_bound in
    let e = c.if-self.true in record {
      len_in_bounds = omega (arith, (as_table c.requires.part e).size, in_table);
      t_value = sym (at_sorted slotted c.args.self.len c.args.t.now e) ∙ c.requires.t_value;
    }

pub overflow_add-result : goal.overflow_add-result
overflow_add-result c =
    let in_table : c.args.self.len < 512 = room c.requires.part c.if-self.true c.requires.t_len_bound in
    omega (arith, in_table)

pub returns-then-self : goal.returns-then-self
unfolding insert
returns-then-self c =
    let in_table : c.args.self.len < 512 = room c.requires.part c.if-self.true c.requires.t_len_bound in
    let a = c.args in
    let r = a.range in
    sorted_after (λ b x. insert b r x) c.requires.part c.if-self.true
    (omega (arith, length_inserted r (table_slots a.self.len a.t.now), table_length a.self.len a.t.now))
    (c.insert.ensures ∙ table_inserted (as_table c.requires.part c.if-self.true) in_table r)

pub insert-requires-2 : goal.insert-requires-2
insert-requires-2 c = as_pairs c.requires.part c.if-self.false

pub returns : goal.returns
unfolding insert
returns c = let a = c.args in
    early_after (λ b x. insert b a.range x) c.requires.part c.if-self.false c.insert-2.ensures.slots
