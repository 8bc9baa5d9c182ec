-- `count_bytes`: 2 for more bytes than there are addresses.
use Rattle.lists.proofs.Whole.{does_refuse}
use Rattle.requests.proofs.Counted.{bytes_over}
use Rattle.requests.proofs.by_count.count_bytes.Goals as goal

pub returns-then-num_bytes-gt-ADDRESS_LIMIT : goal.returns-then-num_bytes-gt-ADDRESS_LIMIT
returns-then-num_bytes-gt-ADDRESS_LIMIT c = does_refuse _ _ c.requires 2 _ (bytes_over _ _ c.if-num_bytes-gt-ADDRESS_LIMIT.true)
