-- Answers to the goals of `walk_step::Spot::kept`.
use Rattle.walk_step.proofs.Ways.{kept_in}
use borrow.Author.Rules.{rules}
use Rattle.walk_step.proofs.Spot.kept.Goals as goal

pub returns : goal.returns
returns c = search (kept_in, rules)
