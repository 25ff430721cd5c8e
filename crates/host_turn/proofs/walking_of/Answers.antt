-- Answers to the goals of `host_turn::walking_of`.
use Rattle.host_turn.proofs.Ways.{at-case}
use Rattle.host_turn.specs.Turns.{walking_of}
use borrow.Author.Rules.{rules}
use Rattle.host_turn.proofs.walking_of.Goals as goal

pub returns-in-Asked : goal.returns-in-Asked
unfolding walking_of
returns-in-Asked c = search (at-case walking_of, rules)

pub returns-in-Mine : goal.returns-in-Mine
unfolding walking_of
returns-in-Mine c = search (at-case walking_of, rules)

pub returns-in-Other : goal.returns-in-Other
unfolding walking_of
returns-in-Other c = search (at-case walking_of, rules)

pub returns-in-Leaving : goal.returns-in-Leaving
unfolding walking_of
returns-in-Leaving c = search (at-case walking_of, rules)
