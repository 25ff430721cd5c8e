-- Answers to the goals of `walk_step::Spot::settled`.
use Rattle.walk_step.proofs.Ways.{holding-deep, settled-yes, settled-no}
use borrow.Author.Rules.{rules}
use Rattle.walk_step.proofs.Spot.settled.Goals as goal

pub invariant_of-q-clause-depth_bound : goal.invariant_of-q-clause-depth_bound
invariant_of-q-clause-depth_bound c = search (holding-deep, rules)

pub returns-then-held : goal.returns-then-held
returns-then-held c = search (settled-yes, rules)

pub returns : goal.returns
returns c = search (settled-no, rules)
