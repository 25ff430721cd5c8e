-- Answers to the goals of `host_turn::selecting`.
use Rattle.host_turn.proofs.Ways.{selecting-is}
use borrow.Author.Rules.{rules}
use Rattle.host_turn.proofs.selecting.Goals as goal

pub returns : goal.returns
returns c = search (selecting-is, rules)
