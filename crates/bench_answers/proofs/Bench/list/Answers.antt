-- `list`: the lists that are taken apart are the record's.
use mathlib.Core.Path.{◌∙◌}
use Rattle.bench_answers.proofs.Opened.{listed_ruled, listed_text}
use Rattle.bench_answers.proofs.Bench.list.Goals as goal

pub lists_of-requires : goal.lists_of-requires
lists_of-requires g c = listed_ruled _ _ c.requires.ruled c.take_apart-h.ensures

pub returns : goal.returns
returns g c = c.put_lists.ensures ∙ listed_text _ _ c.requires.ruled c.take_apart-h.ensures c.lists_of.result c.lists_of.ensures.header c.lists_of.ensures.entries
