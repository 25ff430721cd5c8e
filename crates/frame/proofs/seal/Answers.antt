-- Answers to the goals of `frame::seal`.
use Rattle.frame.proofs.Writes.{seals}
use borrow.Author.Rules.{rules}
use Rattle.frame.proofs.seal.Goals as goal

pub returns : goal.returns
returns c = search (seals, rules)
