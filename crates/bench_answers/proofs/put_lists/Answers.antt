-- `put_lists`: one line after another, each within its room.
use native.Mathlib.Omega.{arith}
use mathlib.Core.Path.{ap}
use mathlib.Core.List.{append_assoc}
use lib.ListN.{length}
use Rattle.bench_lists.proofs.Going.{line_within}
use Rattle.bench_answers.specs.Answered.{four_lines}
use Rattle.bench_answers.proofs.put_lists.Goals as goal

pub put_list-requires-2 : goal.put_list-requires-2
put_list-requires-2 g c = omega (arith, ap length c.requires.empty, c.requires.room, line_within _ _ c.args.out.now.items c.args.lists.ruled.keeps c.put_list.ensures)

pub put_list-requires-3 : goal.put_list-requires-3
put_list-requires-3 g c =
    omega (
      arith,
      ap length c.requires.empty,
      c.requires.room,
      line_within _ _ c.args.out.now.items c.args.lists.ruled.keeps c.put_list.ensures,
      line_within _ _ c.put_list.new.out.items c.args.lists.ruled.keeps c.put_list-2.ensures,
    )

pub put_list-requires-4 : goal.put_list-requires-4
put_list-requires-4 g c =
    omega (
      arith,
      ap length c.requires.empty,
      c.requires.room,
      line_within _ _ c.args.out.now.items c.args.lists.ruled.keeps c.put_list.ensures,
      line_within _ _ c.put_list.new.out.items c.args.lists.ruled.keeps c.put_list-2.ensures,
      line_within _ _ c.put_list-2.new.out.items c.args.lists.ruled.keeps c.put_list-3.ensures,
    )

pub returns : goal.returns
unfolding four_lines
returns g c = rw (c.put_list-4.ensures, c.put_list-3.ensures, c.put_list-2.ensures, c.put_list.ensures, c.requires.empty) (simp append_assoc)
