-- Answers to the goals of `walk_step::Spot::confirming`.
use Rattle.walk_step.proofs.Ways.{confirming-on}
use borrow.Author.Rules.{rules}
use Rattle.walk_step.proofs.Spot.confirming.Goals as goal

pub returns-then-p-n : goal.returns-then-p-n
returns-then-p-n c = search (confirming-on, rules)
