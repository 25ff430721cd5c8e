-- Answers to the goals of `walk_step::Spot::leave`.
use Rattle.walk_step.proofs.Ways.{deep-at}
use borrow.Author.Rules.{rules}
use Rattle.walk_step.proofs.Spot.leave.Goals as goal

pub turn-place-requires-clause-depth_nonzero : goal.turn-place-requires-clause-depth_nonzero
turn-place-requires-clause-depth_nonzero c = search (deep-at, rules)
