-- Answers to the goals of `crc::crc_byte`.
use Rattle.crc.proofs.Linear.{closed}
use borrow.Author.Rules.{rules}
use Rattle.crc.proofs.crc_byte.Goals as goal

pub returns : goal.returns
returns c = search (closed, rules)
