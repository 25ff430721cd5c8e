-- Answers to the goals of `walk::Place::lower`.
use Rattle.walk.proofs.Ways.{lower-is}
use borrow.Author.Rules.{rules}
use Rattle.walk.proofs.Place.lower.Goals as goal

pub returns : goal.returns
returns c = search (lower-is, rules)
