-- `allocate_from_slots`: three operations, one after the other.
use native.Mathlib.Omega.{arith}
use Rattle.pairs.proofs.Pairs.{pairs_length}
use Rattle.request_grants.proofs.Grant.{written_below, written_above}
use Rattle.request_grants.proofs.Slots.{pairs_emptied, pairs_before, all_steps}
use Rattle.request_grants.proofs.allocate_from_slots.Goals as goal

pub empty_slot-requires : goal.empty_slot-requires
empty_slot-requires c = record {
  pairs = c.requires.pairs;
  i_bound = omega (arith, pairs_length 32 c.args.t.now, c.requires.chooses.some, c.requires.chooses.in_list);
}

pub put_left-requires : goal.put_left-requires
put_left-requires c = pairs_emptied c.args.t.now c.args.chosen c.args.asked c.requires.t_value c.requires.chooses c.empty_slot.ensures

pub put_left-requires-2 : goal.put_left-requires-2
put_left-requires-2 c = let a = c.args in
    pairs_before a.t.now a.chosen a.asked c.requires.t_value c.requires.chooses c.empty_slot.ensures (written_below a.chosen.range a.asked _ c.below.ensures c.put_left.ensures)

pub returns : goal.returns
returns c = let a = c.args in
    all_steps a.t.now a.chosen a.asked c.requires.t_value c.requires.chooses c.empty_slot.ensures (written_below a.chosen.range a.asked _ c.below.ensures c.put_left.ensures) (written_above a.chosen.range a.asked _ c.above.ensures c.put_left-2.ensures)
