-- Answers to the goals of `host_state::save_place`.
use Rattle.host_state.proofs.Ways.{put-place}
use borrow.Author.Rules.{rules}
use Rattle.host_state.proofs.save_place.Goals as goal

pub returns : goal.returns
returns c = search (put-place, rules)
