-- Answers to the goals of `host_turn::flat_of`.
use Rattle.host_turn.proofs.Ways.{at_turn}
use Rattle.host_turn.specs.Turns.{flat_of}
use borrow.Author.Rules.{rules}
use Rattle.host_turn.proofs.flat_of.Goals as goal

pub returns-in-Idle : goal.returns-in-Idle
unfolding flat_of
returns-in-Idle c = search (at_turn, rules)

pub returns-in-Ready : goal.returns-in-Ready
unfolding flat_of
returns-in-Ready c = search (at_turn, rules)

pub returns-in-Waiting : goal.returns-in-Waiting
unfolding flat_of
returns-in-Waiting c = search (at_turn, rules)
