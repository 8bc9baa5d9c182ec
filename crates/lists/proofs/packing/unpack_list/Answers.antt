-- `unpack_list`: at each turn the first i slots are written.
use mathlib.Core.Path.{refl, ap, ◌∙◌}
use lib.Dec.{leb}
use Rattle.memory_structs.specs.declared.range.FrameRange.{FrameRange}
use lib.ListN.{length-set}
use Rattle.model.specs.Store.{flag, early_of}
use Rattle.lists.proofs.Turns.{starts_of, ends_of, flags_of, fill_turn, fill_end, flag_byte, start_is, end_is, flag_is, starts_length, ends_length, flags_length}
use native.Mathlib.Omega.{arith}
use Rattle.lists.proofs.packing.unpack_list.Goals as goal

pub loop-i-init : goal.loop-i-init
loop-i-init c = record { sizes = record { starts = omega arith; ends = omega arith; flags = omega arith }; starts = refl; ends = refl; used = refl }

pub loop-i-preserved : goal.loop-i-preserved
loop-i-preserved c = let w = c.args.t.now in
    let l = c.loop-i in
    let v = l.invariant in record {
      sizes = record { starts = simp length-set v.sizes.starts; ends = simp length-set v.sizes.ends; flags = simp length-set v.sizes.flags };
      starts = fill_turn 1 l.list.starts (starts_of w) l.i (omega (arith, v.sizes.starts)) (omega (arith, starts_length w)) _ (ap (λ (r : FrameRange). r.start) c.entry-slot.ensures ∙ start_is w l.i c.requires (omega arith)) v.starts;
      ends = fill_turn 0 l.list.ends (ends_of w) l.i (omega (arith, v.sizes.ends)) (omega (arith, ends_length w)) _ (ap (λ (r : FrameRange). r.end) c.entry-slot.ensures ∙ end_is w l.i c.requires (omega arith)) v.ends;
      used = fill_turn 0 l.list.used (flags_of w) l.i (omega (arith, v.sizes.flags)) (omega (arith, flags_length w)) _ (flag_byte _ c.from.ensures ∙ (λ j. flag (leb (c.entry-slot.ensures j).start (c.entry-slot.ensures j).end)) ∙ flag_is w l.i c.requires (omega arith)) v.used;
    }

pub returns : goal.returns
unfolding early_of
returns c = let w = c.args.t.now in
    let l = c.loop-i in
    let v = l.invariant in λ j. record {
      starts = fill_end 1 l.list.starts (starts_of w) l.i (omega (arith, v.sizes.starts)) (omega (arith, starts_length w)) v.starts j;
      ends = fill_end 0 l.list.ends (ends_of w) l.i (omega (arith, v.sizes.ends)) (omega (arith, ends_length w)) v.ends j;
      used = fill_end 0 l.list.used (flags_of w) l.i (omega (arith, v.sizes.flags)) (omega (arith, flags_length w)) v.used j;
    }
