-- `read_areas` by what was read: none, whole areas, or an area that is not whole.
use Rattle.std.proofs.Common.{rules, ◌≡◌, Err}
use Rattle.lines.proofs.Words.{areas_whole, areas_not_whole, areas_none}
use Rattle.lines.proofs.read_areas.Goals as goal

pub returns-in_err-len-clause-reads : goal.returns-in_err-len-clause-reads
returns-in_err-len-clause-reads c =
    let e : c.from_residual.result ≡ Err c.in_err-len.field-0.0 = search rules in
    rw e (areas_none c.read_words.ensures.reads _ c.in_err-len.was)

pub returns-then-len-ne0-clause-reads : goal.returns-then-len-ne0-clause-reads
returns-then-len-ne0-clause-reads c = areas_not_whole c.read_words.ensures.reads c.in_ok-len.len c.in_ok-len.was c.if-len-ne0.true

pub returns-clause-reads : goal.returns-clause-reads
returns-clause-reads c = areas_whole c.read_words.ensures.reads c.in_ok-len.len c.in_ok-len.was c.if-len-ne0.false
