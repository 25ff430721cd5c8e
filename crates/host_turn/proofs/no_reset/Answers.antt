-- Answers to the goals of `host_turn::no_reset`.
use borrow.Author.Rules.{rules}
use Rattle.host_turn.specs.Turns.{no_reset}
use Rattle.host_turn.proofs.no_reset.Goals as goal

pub returns : goal.returns
unfolding no_reset
returns c = search rules
