-- Answers to the goals of `host_state::save_head`.
use Rattle.host_state.proofs.Ways.{put-head, head-length}
use borrow.Author.Rules.{rules}
use Rattle.host_state.proofs.save_head.Goals as goal

pub returns-clause-bytes_after : goal.returns-clause-bytes_after
returns-clause-bytes_after c = search (put-head, rules)

pub returns-clause-f_len : goal.returns-clause-f_len
returns-clause-f_len c = search (head-length, rules)
