-- Answers to the goals of `host_answer::write_sizes`.
use Rattle.host_answer.proofs.Ways.{put-sizes}
use borrow.Author.Rules.{rules}
use Rattle.host_answer.proofs.write_sizes.Goals as goal

pub returns : goal.returns
returns c = search (put-sizes, rules)
