-- Answers to the goals of `host_turn::purpose_of`.
use Rattle.host_turn.proofs.Ways.{other-case}
use borrow.Author.Rules.{rules}
use Rattle.host_turn.specs.Turns.{purpose_of}
use Rattle.lore.proofs.Choice.{ways}
use Rattle.host_turn.proofs.purpose_of.Goals as goal

pub returns-in-1 : goal.returns-in-1
unfolding purpose_of
returns-in-1 c = search (other-case, ways, rules)

pub returns-in-2 : goal.returns-in-2
unfolding purpose_of
returns-in-2 c = search (other-case, ways, rules)

pub returns-in_default : goal.returns-in_default
unfolding purpose_of
returns-in_default c = search (other-case, ways, rules)
