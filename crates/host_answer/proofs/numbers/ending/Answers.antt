-- Answers to the goals of `host_answer::numbers::ending`.
use borrow.Author.Rules.{rules}
use Rattle.host_answer.specs.Numbers.{ending}
use Rattle.host_answer.proofs.numbers.ending.Goals as goal

pub returns : goal.returns
unfolding ending
returns c = search rules
