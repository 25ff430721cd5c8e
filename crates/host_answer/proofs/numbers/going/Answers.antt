-- Answers to the goals of `host_answer::numbers::going`.
use Rattle.host_answer.proofs.numbers.Ways.{going-is}
use borrow.Author.Rules.{rules}
use Rattle.host_answer.proofs.numbers.going.Goals as goal

pub returns : goal.returns
returns c = search (going-is, rules)
