-- `put_range`: five texts, one after another.
use native.Mathlib.Omega.{arith}
use mathlib.Core.List.{append_assoc}
use Rattle.bench_texts.specs.Texts.{range_text, space_text}
use Rattle.bench_texts.proofs.Decimal.{after_text, after_number}
use Rattle.bench_texts.proofs.put_range.Goals as goal

pub put_text-requires-2 : goal.put_text-requires-2
put_text-requires-2 g c = omega (arith, c.requires, after_text c.args.opening.now c.args.out.now.items c.put_text.ensures, after_number _ c.put_text.new.out.items c.put_number.ensures)

pub put_number-requires-2 : goal.put_number-requires-2
put_number-requires-2 g c = omega (arith, c.requires, after_text c.args.opening.now c.args.out.now.items c.put_text.ensures, after_number _ c.put_text.new.out.items c.put_number.ensures, after_text space_text c.put_number.new.out.items c.put_text-2.ensures)

pub put_text-requires-3 : goal.put_text-requires-3
put_text-requires-3 g c = omega (arith, c.requires, after_text c.args.opening.now c.args.out.now.items c.put_text.ensures, after_number _ c.put_text.new.out.items c.put_number.ensures, after_text space_text c.put_number.new.out.items c.put_text-2.ensures, after_number _ c.put_text-2.new.out.items c.put_number-2.ensures)

pub returns : goal.returns
unfolding range_text
returns g c = rw (c.put_text-3.ensures, c.put_number-2.ensures, c.put_text-2.ensures, c.put_number.ensures, c.put_text.ensures) (simp append_assoc)
