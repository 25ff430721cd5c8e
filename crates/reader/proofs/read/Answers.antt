-- Answers to the goals of `reader::read`.
use Rattle.reader.proofs.Ways.{read-from, read_past}
use borrow.Author.Rules.{rules}
use Rattle.reader.proofs.read.Goals as goal

pub returns-then-bytes-at : goal.returns-then-bytes-at
returns-then-bytes-at c = search (read_past, rules)

pub returns : goal.returns
returns c = search (read-from, rules)
