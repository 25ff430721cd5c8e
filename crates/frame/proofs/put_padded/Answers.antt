-- Answers to the goals of `frame::put_padded`.
use Rattle.frame.proofs.Writes.{padded}
use borrow.Author.Rules.{rules}
use Rattle.frame.proofs.put_padded.Goals as goal

pub returns : goal.returns
returns c = search (padded, rules)
