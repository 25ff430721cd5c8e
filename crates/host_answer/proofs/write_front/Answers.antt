-- Answers to the goals of `host_answer::write_front`.
use Rattle.host_answer.proofs.Ways.{put_front}
use borrow.Author.Rules.{rules}
use Rattle.host_answer.proofs.write_front.Goals as goal

pub returns : goal.returns
returns c = search (put_front, rules)
