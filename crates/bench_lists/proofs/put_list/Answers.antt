-- `put_list`: the name, the entries in the list's own part, and the end.
use native.Mathlib.Omega.{arith}
use mathlib.Core.List.{append_assoc}
use Rattle.bench_texts.proofs.Decimal.{after_text}
use Rattle.bench_lists.specs.ListLines.{list_line, name_text}
use Rattle.bench_lists.proofs.Going.{own_entries, own_within, name_length}
use Rattle.bench_lists.proofs.put_list.Goals as goal

pub put_entries-requires : goal.put_entries-requires
put_entries-requires g c = omega (arith, c.requires, after_text (name_text c.args.which) c.args.out.now.items c.put_name.ensures, name_length c.args.which)

pub put_text-requires : goal.put_text-requires
put_text-requires g c =
    omega (
      arith,
      c.requires,
      after_text (name_text c.args.which) c.args.out.now.items c.put_name.ensures,
      name_length c.args.which,
      own_within c.args.lists _ c.list.ensures.list c.put_name.new.out.items c.put_entries.ensures,
    )

pub returns : goal.returns
unfolding list_line
returns g c =
    rw (c.put_text.ensures, own_entries c.args.lists c.args.which c.list.ensures.list c.put_name.new.out.items c.put_entries.ensures, c.put_name.ensures) (simp append_assoc)
