-- Answers to the goals of `host_answer::write_tags`.
use Rattle.host_answer.proofs.Ways.{put-tags}
use borrow.Author.Rules.{rules}
use Rattle.host_answer.proofs.write_tags.Goals as goal

pub returns : goal.returns
returns c = search (put-tags, rules)
