use Rattle.wire.proofs.Ways.{number-is}
use borrow.Author.Rules.{rules}
use Rattle.wire.proofs.U16Word2.of_bytes.Goals as goal

pub returns : goal.returns
returns c = search (number-is 1, rules)
