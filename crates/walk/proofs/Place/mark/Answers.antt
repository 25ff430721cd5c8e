-- Answers to the goals of `walk::Place::mark`.
use Rattle.walk.proofs.Ways.{mark-is}
use borrow.Author.Rules.{rules}
use Rattle.walk.proofs.Place.mark.Goals as goal

pub returns : goal.returns
returns c = search (mark-is, rules)
