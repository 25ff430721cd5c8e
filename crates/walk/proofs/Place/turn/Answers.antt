-- Answers to the goals of `walk::Place::turn`.
use Rattle.walk.proofs.Ways.{turn_is}
use borrow.Author.Rules.{rules}
use Rattle.walk.proofs.Place.turn.Goals as goal

pub returns : goal.returns
returns c = search (turn_is, rules)
