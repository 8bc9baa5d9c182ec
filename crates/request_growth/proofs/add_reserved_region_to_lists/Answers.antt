-- `add_reserved_region_to_lists`: the insert among the reserved regions, in their own part, put back.
use native.Mathlib.Omega.{arith}
use mathlib.Core.Path.{◌∙◌}
use Prim.Native.Nat.{◌<◌}
use lib.ListN.{length}
use Rattle.model.specs.Lists.{entries, bound, insert}
use Rattle.lists.specs.declared.header.WhichList.TheVariants.{ReservedRegions}
use Rattle.lists.specs.Whole.{slots_at}
use Rattle.lists.proofs.Whole.{lent_fits, lent_as, lent_tidy}
use Rattle.request_growth.proofs.Growing.{tidy_slotted, lent_changed}
use Rattle.request_growth.proofs.add_reserved_region_to_lists.Goals as goal

pub offset_bounds-lists-words : goal.offset_bounds-lists-words
offset_bounds-lists-words c = omega (arith, lent_fits c.args.h c.args.lists.now c.requires.ruled ReservedRegions c.part-part.ensures c.words_of-words.ensures.from c.words_of-words.ensures.to)

pub slice_bounds-insert-end : goal.slice_bounds-insert-end
slice_bounds-insert-end c = omega (arith, lent_fits c.args.h c.args.lists.now c.requires.ruled ReservedRegions c.part-part.ensures c.words_of-words.ensures.from c.words_of-words.ensures.to)

pub insert-after-requires : goal.insert-after-requires
unfolding slots_at
insert-after-requires c = let tidied = lent_tidy c.args.h c.args.lists.now c.requires.ruled ReservedRegions c.part-part.ensures c.words_of-words.ensures.from c.words_of-words.ensures.to in record {
  part = tidied.part;
  t_value = tidy_slotted _ _ tidied.keeps;
  t_len_bound = lent_as c.args.h c.args.lists.now c.requires.ruled ReservedRegions c.part-part.ensures c.words_of-words.ensures.from c.words_of-words.ensures.to (λ b s. length (entries s) < bound b) c.requires.lists_len_bound;
}

pub returns : goal.returns
unfolding slots_at
returns c =
    let z = lent_changed (λ b s. insert b c.args.region s) c.args.h c.args.lists.now c.requires.ruled ReservedRegions c.part-part.ensures c.words_of-words.ensures.from c.words_of-words.ensures.to c.insert-after.ensures in
    record { header = c.with_length.ensures ∙ z.header; words = z.words }
