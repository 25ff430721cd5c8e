use Rattle.wire.proofs.Ways.{bytes-are}
use borrow.Author.Rules.{rules}
use Rattle.wire.proofs.U64Word8.to_bytes.Goals as goal

pub returns : goal.returns
returns c = search (bytes-are 8, rules)
