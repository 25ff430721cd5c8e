-- Answers to the goals of `host_turn::demanding`.
use borrow.Author.Rules.{rules}
use Rattle.host_turn.specs.Turns.{demanding}
use Rattle.host_turn.proofs.demanding.Goals as goal

pub returns : goal.returns
unfolding demanding
returns c = search rules
