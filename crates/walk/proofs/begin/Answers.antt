-- Answers to the goals of `walk::begin`.
use Rattle.walk.proofs.Ways.{begin-is}
use borrow.Author.Rules.{rules}
use Rattle.walk.proofs.begin.Goals as goal

pub returns : goal.returns
returns c = search (begin-is, rules)
