-- Answers to the goals of `host_answer::numbers::refusing`.
use Rattle.host_answer.proofs.numbers.Ways.{refusing-is}
use borrow.Author.Rules.{rules}
use Rattle.host_answer.proofs.numbers.refusing.Goals as goal

pub returns : goal.returns
returns c = search (refusing-is, rules)
