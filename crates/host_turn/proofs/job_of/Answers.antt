-- Answers to the goals of `host_turn::job_of`.
use Rattle.host_turn.proofs.Ways.{other-case}
use Rattle.host_turn.specs.Turns.{job_of}
use Rattle.lore.proofs.Choice.{ways}
use borrow.Author.Rules.{rules}
use Rattle.host_turn.proofs.job_of.Goals as goal

pub returns-in-1 : goal.returns-in-1
unfolding job_of
returns-in-1 c = search (other-case, ways, rules)

pub returns-in-2 : goal.returns-in-2
unfolding job_of
returns-in-2 c = search (other-case, ways, rules)

pub returns-in-3 : goal.returns-in-3
unfolding job_of
returns-in-3 c = search (other-case, ways, rules)

pub returns-in-4 : goal.returns-in-4
unfolding job_of
returns-in-4 c = search (other-case, ways, rules)

pub returns-in_default : goal.returns-in_default
unfolding job_of
returns-in_default c = search (other-case, ways, rules)
