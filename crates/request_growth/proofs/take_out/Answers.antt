-- `take_out`: the grant from the list, in its own part, put back.
use native.Mathlib.Omega.{arith}
use mathlib.Core.Path.{◌∙◌}
use Prim.Native.Nat.{◌≤◌}
use Rattle.model.specs.Lists.{bound}
use Rattle.lists.specs.declared.header.WhichList.TheVariants.{ReservedFree}
use Rattle.lists.proofs.Whole.{lent_fits, lent_as, lent_tidy}
use Rattle.request_grants.specs.Grants.{Chooses, grant_of, entries_left}
use Rattle.request_growth.proofs.Growing.{lent_changed}
use Rattle.request_growth.proofs.take_out.Goals as goal

pub offset_bounds-lists-words : goal.offset_bounds-lists-words
offset_bounds-lists-words c = omega (arith, lent_fits c.args.h c.args.lists.now c.requires.ruled ReservedFree c.part-part.ensures c.words_of-words.ensures.from c.words_of-words.ensures.to)

pub slice_bounds-allocate_from_chosen_chunk-end : goal.slice_bounds-allocate_from_chosen_chunk-end
slice_bounds-allocate_from_chosen_chunk-end c = omega (arith, lent_fits c.args.h c.args.lists.now c.requires.ruled ReservedFree c.part-part.ensures c.words_of-words.ensures.from c.words_of-words.ensures.to)

pub allocate_from_chosen_chunk-after-requires : goal.allocate_from_chosen_chunk-after-requires
allocate_from_chosen_chunk-after-requires c = record {
  tidy = lent_tidy c.args.h c.args.lists.now c.requires.ruled ReservedFree c.part-part.ensures c.words_of-words.ensures.from c.words_of-words.ensures.to;
  chooses = lent_as c.args.h c.args.lists.now c.requires.ruled ReservedFree c.part-part.ensures c.words_of-words.ensures.from c.words_of-words.ensures.to (λ b s. Chooses b s c.args.chosen c.args.taken) c.requires.chooses;
  t_bound = lent_as c.args.h c.args.lists.now c.requires.ruled ReservedFree c.part-part.ensures c.words_of-words.ensures.from c.words_of-words.ensures.to (λ b s. entries_left b c.args.chosen c.args.taken s ≤ bound b) c.requires.lists_bound;
}

pub returns : goal.returns
returns c =
    let z = lent_changed (λ b s. grant_of b c.args.chosen c.args.taken s) c.args.h c.args.lists.now c.requires.ruled ReservedFree c.part-part.ensures c.words_of-words.ensures.from c.words_of-words.ensures.to c.allocate_from_chosen_chunk-after.ensures in
    record { header = c.with_length.ensures ∙ z.header; words = z.words }
