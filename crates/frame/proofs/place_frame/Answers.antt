-- Answers to the goals of `frame::place_frame`.
use Rattle.frame.proofs.Writes.{no_room, wrote}
use borrow.Author.Rules.{rules}
use Rattle.frame.proofs.place_frame.Goals as goal

pub returns-then-buf-n : goal.returns-then-buf-n
returns-then-buf-n c = search (no_room, rules)

pub returns : goal.returns
returns c = search (wrote, rules)
