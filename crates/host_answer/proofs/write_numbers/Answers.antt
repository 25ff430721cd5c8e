-- Answers to the goals of `host_answer::write_numbers`.
use Rattle.host_answer.proofs.Ways.{put-numbers}
use borrow.Author.Rules.{rules}
use Rattle.host_answer.proofs.write_numbers.Goals as goal

pub returns : goal.returns
returns c = search (put-numbers, rules)
