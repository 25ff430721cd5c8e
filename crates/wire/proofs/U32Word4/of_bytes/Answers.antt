use Rattle.wire.proofs.Ways.{number-is}
use borrow.Author.Rules.{rules}
use Rattle.wire.proofs.U32Word4.of_bytes.Goals as goal

pub returns : goal.returns
returns c = search (number-is 3, rules)
