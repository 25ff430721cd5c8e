use Rattle.wire.proofs.Ways.{bytes-are}
use borrow.Author.Rules.{rules}
use Rattle.wire.proofs.U16Word2.to_bytes.Goals as goal

pub returns : goal.returns
returns c = search (bytes-are 2, rules)
