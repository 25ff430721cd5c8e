-- Answers to the goals of `host_turn_bytes::save_work`.
use Rattle.host_turn_bytes.proofs.Ways.{put-work}
use borrow.Author.Rules.{rules}
use Rattle.host_turn_bytes.proofs.save_work.Goals as goal

pub returns : goal.returns
returns c = search (put-work, rules)
