-- Answers to the goals of `host_turn::jobless`.
use Rattle.host_turn.proofs.Ways.{jobless-is}
use borrow.Author.Rules.{rules}
use Rattle.host_turn.proofs.jobless.Goals as goal

pub returns : goal.returns
returns c = search (jobless-is, rules)
