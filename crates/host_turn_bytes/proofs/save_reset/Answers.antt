-- Answers to the goals of `host_turn_bytes::save_reset`.
use Rattle.host_turn_bytes.proofs.Ways.{put-reset}
use borrow.Author.Rules.{rules}
use Rattle.host_turn_bytes.proofs.save_reset.Goals as goal

pub returns : goal.returns
returns c = search (put-reset, rules)
