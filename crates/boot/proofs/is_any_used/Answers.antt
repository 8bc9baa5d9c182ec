-- `is_any_used`: each used slot has an entry.
use Rattle.std.proofs.Common.{◌∙◌, rules}
use Rattle.boot.proofs.Entries.{used_entries}
use Rattle.boot.proofs.is_any_used.Goals as goal

pub returns : goal.returns
returns c = c.contains.ensures.value ∙ used_entries c.args.list.now (search rules) (search rules)
