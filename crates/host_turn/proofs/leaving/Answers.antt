-- Answers to the goals of `host_turn::leaving`.
use borrow.Author.Rules.{rules}
use Rattle.host_turn.specs.Turns.{leaving}
use Rattle.host_turn.proofs.leaving.Goals as goal

pub returns : goal.returns
unfolding leaving
returns c = search rules
