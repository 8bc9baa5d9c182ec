-- `close`: the header, and the slots where they are to be written, list by list.
use mathlib.Core.Path.{sym, ◌∙◌}
use Rattle.lists.proofs.Closing.{to_unpack, slots_written, slots_kept}
use Rattle.lists.proofs.Turns.{flag_byte}
use native.Mathlib.Omega.{arith}
use Rattle.lists.proofs.packing.close.Goals as goal

pub returns-then-sorted : goal.returns-then-sorted
returns-then-sorted c =
    (λ i. record {
      sorted = flag_byte c.args.h.sorted c.from-a.ensures i;
      general_free = c.args.a.now.general_free;
      reserved_free = c.args.a.now.reserved_free;
      general_regions = c.args.a.now.general_regions;
      reserved_regions = c.args.a.now.reserved_regions;
      general_free_len = c.args.h.general_free;
      reserved_free_len = c.args.h.reserved_free;
      general_regions_len = c.args.h.general_regions;
      reserved_regions_len = c.args.h.reserved_regions;
    })
    ∙ sym (slots_kept c.args.a.now c.args.h c.args.slots.now (sym c.stays_sorted-sorted.ensures ∙ c.if-sorted.true))

pub slice_bounds-unpack_list-end : goal.slice_bounds-unpack_list-end
slice_bounds-unpack_list-end c = omega (arith, (to_unpack c.stays_sorted-sorted.ensures c.if-sorted.false c.requires).long)

pub unpack_list-requires : goal.unpack_list-requires
unpack_list-requires c = (to_unpack c.stays_sorted-sorted.ensures c.if-sorted.false c.requires).general_free

pub slice_bounds-unpack_list-end-2 : goal.slice_bounds-unpack_list-end-2
slice_bounds-unpack_list-end-2 c = omega (arith, (to_unpack c.stays_sorted-sorted.ensures c.if-sorted.false c.requires).long)

pub unpack_list-requires-2 : goal.unpack_list-requires-2
unpack_list-requires-2 c = (to_unpack c.stays_sorted-sorted.ensures c.if-sorted.false c.requires).reserved_free

pub slice_bounds-unpack_list-end-3 : goal.slice_bounds-unpack_list-end-3
slice_bounds-unpack_list-end-3 c = omega (arith, (to_unpack c.stays_sorted-sorted.ensures c.if-sorted.false c.requires).long)

pub unpack_list-requires-3 : goal.unpack_list-requires-3
unpack_list-requires-3 c = (to_unpack c.stays_sorted-sorted.ensures c.if-sorted.false c.requires).general_regions

pub slice_bounds-unpack_list-end-4 : goal.slice_bounds-unpack_list-end-4
slice_bounds-unpack_list-end-4 c = omega (arith, (to_unpack c.stays_sorted-sorted.ensures c.if-sorted.false c.requires).long)

pub unpack_list-requires-4 : goal.unpack_list-requires-4
unpack_list-requires-4 c = (to_unpack c.stays_sorted-sorted.ensures c.if-sorted.false c.requires).reserved_regions

pub returns : goal.returns
returns c =
    (λ i. record {
      sorted = flag_byte c.args.h.sorted c.from-a.ensures i;
      general_free = c.unpack_list.ensures i;
      reserved_free = c.unpack_list-2.ensures i;
      general_regions = c.unpack_list-3.ensures i;
      reserved_regions = c.unpack_list-4.ensures i;
      general_free_len = c.args.h.general_free;
      reserved_free_len = c.args.h.reserved_free;
      general_regions_len = c.args.h.general_regions;
      reserved_regions_len = c.args.h.reserved_regions;
    })
    ∙ sym (slots_written c.args.a.now c.args.h c.args.slots.now (sym c.stays_sorted-sorted.ensures ∙ c.if-sorted.false))
