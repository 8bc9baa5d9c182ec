-- `held_list`: refused by 3 or 11, or answered.
use native.Mathlib.Omega.{arith}
use Rattle.queries.proofs.Asked.{held_short, held_refused, held_read}
use Rattle.queries.proofs.held_list.Goals as goal

pub returns-then-buffer-lt-HELD_WORDS : goal.returns-then-buffer-lt-HELD_WORDS
returns-then-buffer-lt-HELD_WORDS c = held_short _ _ _ c.if-buffer-lt-HELD_WORDS.true c.from.ensures

pub returns-in-Ok : goal.returns-in-Ok
returns-in-Ok c = held_read _ _ _ (omega (arith, c.if-buffer-lt-HELD_WORDS.false)) _ c.in-Ok.ensures.ok c.held_list.ensures

pub returns-in-Err : goal.returns-in-Err
returns-in-Err c = held_refused _ _ _ (omega (arith, c.if-buffer-lt-HELD_WORDS.false)) _ c.in-Err.ensures.err c.from-in-Err.ensures
