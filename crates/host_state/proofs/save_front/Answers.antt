-- Answers to the goals of `host_state::save_front`.
use Rattle.host_state.proofs.Ways.{put_front, front_length}
use borrow.Author.Rules.{rules}
use Rattle.host_state.proofs.save_front.Goals as goal

pub returns-clause-bytes_after : goal.returns-clause-bytes_after
returns-clause-bytes_after c = search (put_front, rules)

pub returns-clause-f_len : goal.returns-clause-f_len
returns-clause-f_len c = search (front_length, rules)
