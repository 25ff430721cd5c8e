-- Answers to the goals of `reader::right_check`.
use Rattle.reader.proofs.Ways.{checked}
use borrow.Author.Rules.{rules}
use Rattle.reader.proofs.right_check.Goals as goal

pub returns : goal.returns
returns c = search (checked, rules)
