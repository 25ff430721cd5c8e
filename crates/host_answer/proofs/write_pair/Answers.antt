-- Answers to the goals of `host_answer::write_pair`.
use Rattle.host_answer.proofs.Ways.{put-pair}
use borrow.Author.Rules.{rules}
use Rattle.host_answer.proofs.write_pair.Goals as goal

pub returns : goal.returns
returns c = search (put-pair, rules)
