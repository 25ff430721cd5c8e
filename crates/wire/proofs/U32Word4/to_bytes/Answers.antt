use Rattle.wire.proofs.Ways.{bytes-are}
use borrow.Author.Rules.{rules}
use Rattle.wire.proofs.U32Word4.to_bytes.Goals as goal

pub returns : goal.returns
returns c = search (bytes-are 4, rules)
