-- Answers to the goals of `reader::read_sized`.
use Rattle.reader.proofs.Ways.{read_whole, read-bad}
use Rattle.lore.proofs.Choice.{ways}
use Rattle.paper.specs.Frame.{read_sized}
use borrow.Author.Rules.{rules}
use Rattle.reader.proofs.read_sized.Goals as goal

pub returns-then-len-gt-MAX_PAYLOAD : goal.returns-then-len-gt-MAX_PAYLOAD
unfolding read_sized
returns-then-len-gt-MAX_PAYLOAD c = search (ways, rules)

pub returns-then-s-size : goal.returns-then-s-size
unfolding read_sized
returns-then-s-size c = search (ways, rules)

pub returns-then-right_check : goal.returns-then-right_check
returns-then-right_check c = search read_whole

pub returns-else-right_check : goal.returns-else-right_check
returns-else-right_check c = search read-bad
