-- Answers to the goals of `walk_step::Spot::silent`.
use Rattle.walk_step.proofs.Ways.{deep-at}
use borrow.Author.Rules.{rules}
use Rattle.walk_step.proofs.Spot.silent.Goals as goal

pub turn-requires-clause-depth_nonzero : goal.turn-requires-clause-depth_nonzero
turn-requires-clause-depth_nonzero c = search (deep-at, rules)
