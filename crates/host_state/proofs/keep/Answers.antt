-- Answers to the goals of `host_state::keep`.
use Rattle.host_state.proofs.InPlace.{keep-full, keep-room}
use borrow.Author.Rules.{rules}
use Rattle.host_state.proofs.keep.Goals as goal

pub returns-then-n-ge-ROWS : goal.returns-then-n-ge-ROWS
returns-then-n-ge-ROWS c = search (keep-full, rules)

pub returns : goal.returns
returns c = search (keep-room, rules)
