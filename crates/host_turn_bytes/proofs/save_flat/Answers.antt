-- Answers to the goals of `host_turn_bytes::save_flat`.
use Rattle.host_turn_bytes.proofs.Ways.{put-flat}
use borrow.Author.Rules.{rules}
use Rattle.host_turn_bytes.proofs.save_flat.Goals as goal

pub returns : goal.returns
returns c = search (put-flat, rules)
