-- Answers to the goals of `host_state::apply`.
use Rattle.host_state.proofs.InPlace.{apply-same, apply-moves, apply-keeps, apply-ends}
use borrow.Author.Rules.{rules}
use Rattle.host_state.proofs.apply.Goals as goal

pub returns-in-Same : goal.returns-in-Same
returns-in-Same c = search (apply-same, rules)

pub returns-in-Moves : goal.returns-in-Moves
returns-in-Moves c = search (apply-moves, rules)

pub returns-in-Keeps : goal.returns-in-Keeps
returns-in-Keeps c = search (apply-keeps, rules)

pub returns-in-Gives : goal.returns-in-Gives
returns-in-Gives c = search (apply-ends, rules)
