-- Answers to the goals of `host_turn::step_of`.
use Rattle.host_turn.proofs.Ways.{other-case}
use borrow.Author.Rules.{rules}
use Rattle.host_turn.specs.Turns.{step_of}
use Rattle.lore.proofs.Choice.{ways}
use Rattle.host_turn.proofs.step_of.Goals as goal

pub returns-in-1 : goal.returns-in-1
unfolding step_of
returns-in-1 c = search (other-case, ways, rules)

pub returns-in-2 : goal.returns-in-2
unfolding step_of
returns-in-2 c = search (other-case, ways, rules)

pub returns-in-3 : goal.returns-in-3
unfolding step_of
returns-in-3 c = search (other-case, ways, rules)

pub returns-in_default : goal.returns-in_default
unfolding step_of
returns-in_default c = search (other-case, ways, rules)
