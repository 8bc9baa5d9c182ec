-- `take_in`: the request to the list, in its own part.
use Rattle.request_taking.proofs.Taken.{lent_chooses}
use Rattle.request_taking.proofs.take_in.Goals as goal

pub take-requires-clause-chooses : goal.take-requires-clause-chooses
take-requires-clause-chooses c = lent_chooses c.args.h c.args.lists.now c.requires.ruled c.args.which c.args.chosen c.args.asked c.part-part.ensures c.words_of-words.ensures.from c.words_of-words.ensures.to c.requires.chooses
