-- `lists_of`: a record that the test let go on keeps the rules.
use Rattle.queries.proofs.Asked.{may_ask}
use Rattle.queries.proofs.lists_of.Goals as goal

pub lists_of-requires : goal.lists_of-requires
lists_of-requires c = may_ask c.open-opened.ensures c.in_ok-opened.was
