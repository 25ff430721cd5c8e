-- Answers to the goals of `host_turn_bytes::save_tags`.
use Rattle.host_turn_bytes.proofs.Ways.{put-tags}
use borrow.Author.Rules.{rules}
use Rattle.host_turn_bytes.proofs.save_tags.Goals as goal

pub returns : goal.returns
returns c = search (put-tags, rules)
