-- `write_refusal`: three texts, one after another.
use native.Mathlib.Omega.{arith}
use Rattle.bench_texts.specs.Texts.{no_text}
use Rattle.bench_texts.proofs.Decimal.{after_text, after_number}
use Rattle.bench_texts.proofs.write_refusal.Goals as goal

pub put_text-requires-2 : goal.put_text-requires-2
put_text-requires-2 g c = omega (arith, c.requires, after_text no_text c.args.out.now.items c.put_text.ensures, after_number c.args.number c.put_text.new.out.items c.put_number.ensures)
