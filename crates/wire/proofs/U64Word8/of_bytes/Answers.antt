use Rattle.wire.proofs.Ways.{number-is}
use borrow.Author.Rules.{rules}
use Rattle.wire.proofs.U64Word8.of_bytes.Goals as goal

pub returns : goal.returns
returns c = search (number-is 7, rules)
