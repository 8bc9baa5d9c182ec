-- `words_of`: no list's words end above 4 times 1,024.
use native.Mathlib.Omega.{arith}
use Rattle.lists.proofs.Forms.{width_bound}
use Rattle.lists.proofs.Whole.{part_fits}
use Rattle.lists.proofs.header.Header.words_of.Goals as goal

pub part_of-from-requires : goal.part_of-from-requires
part_of-from-requires c = width_bound c.args.self.sorted c.width-width.ensures

pub overflow_add-result : goal.overflow_add-result
overflow_add-result c = omega (arith, width_bound c.args.self.sorted c.width-width.ensures, part_fits c.width-width.result c.args.which)
