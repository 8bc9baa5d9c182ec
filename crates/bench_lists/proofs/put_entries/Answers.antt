-- `put_entries`: at each turn the entries from the slot i on are left.
use Prim.Native.Nat.{suc, ◌+◌, ◌<◌}
use native.Mathlib.Omega.{arith}
use mathlib.Core.Path.{◌≡◌, sym, ap, subst, ◌∙◌}
use mathlib.Core.List.{List, ◌∷◌}
use lib.ListN.{length, drop, drop_of_length-le}
use Rattle.memory_structs.specs.Range.{is_empty}
use Rattle.memory_structs.specs.declared.range.FrameRange.{FrameRange}
use Rattle.model.specs.Lists.{Slot, entries}
use Rattle.model.proofs.Ruled.{tidy_is}
use Rattle.lists.specs.Listed.{list_slots}
use Rattle.bench_lists.proofs.Going.{Going, going_starts, going_on, going_past, going_ends, moved, past, here, slots_few}
use Rattle.bench_lists.proofs.put_entries.Goals as goal
use Rattle.bench_lists.proofs.put_entries.Goals.{then-not-is_empty, else-not-is_empty}

pub loop-i-init : goal.loop-i-init
loop-i-init g c = going_starts _ c.args.out.now.items

pub entry-slot-requires : goal.entry-slot-requires
entry-slot-requires g c = omega (arith, c.slots_in-i-end.ensures)

pub put_entry-requires : goal.put_entry-requires
put_entry-requires g c = let few : c.loop-i.i < 512 = omega (arith, slots_few c.args.list.tidy.part, c.slots_in-i-end.ensures) in
    omega (arith, few, c.requires, c.loop-i.invariant.size)

pub loop-i-preserved : goal.loop-i-preserved
loop-i-preserved g c =
    let v = c.loop-i in
    let s : List Slot = list_slots c.args.list in
    let more : v.i < length s = omega (arith, c.slots_in-i-end.ensures) in
    let left = λ (rs : List FrameRange). Going (entries s) rs c.args.out.now.items v.i v.out.items in
    let sound = (tidy_is _ _ c.args.list.tidy.keeps).shape.sound in
    let next : suc v.i ≡ v.i + 1 = omega arith in
    let e = c.entry-slot.ensures in
    elim c.if-not-is_empty.branch [
      | then-not-is_empty w ↦
          let here_is : entries (drop v.i s) ≡ c.entry-slot.result ∷ entries (drop (v.i + 1) s) =
          here s v.i more (ap is_empty (sym e) ∙ sym c.is_empty.ensures ∙ w.if-not-is_empty.true) ∙ (λ k. sym e k ∷ entries (drop (next k) s)) in
          moved (ap (λ x. x.items) w.out-is) (going_on (subst left here_is v.invariant) w.put_entry.ensures)
      | else-not-is_empty w ↦
          let past_is : entries (drop v.i s) ≡ entries (drop (v.i + 1) s) =
          past s v.i sound (ap is_empty (sym e) ∙ sym c.is_empty.ensures ∙ w.if-not-is_empty.false) ∙ (λ k. entries (drop (next k) s)) in
          moved (ap (λ x. x.items) w.out-is) (going_past (subst left past_is v.invariant))
    ]

pub returns : goal.returns
unfolding entries
returns g c = let v = c.loop-i in
    going_ends v.invariant (ap entries (drop_of_length-le (list_slots c.args.list) {i = v.i} (omega (arith, c.slots_in-i-end.ensures))))
