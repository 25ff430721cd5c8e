-- Answers to the goals of `reader::read_synced`.
use Rattle.reader.proofs.Ways.{read-sized}
use Rattle.lore.proofs.Choice.{ways}
use Rattle.paper.specs.Frame.{read_synced}
use borrow.Author.Rules.{rules}
use Rattle.reader.proofs.read_synced.Goals as goal

pub returns-then-s-lt10 : goal.returns-then-s-lt10
unfolding read_synced
returns-then-s-lt10 c = search (ways, rules)

pub returns : goal.returns
returns c = search (read-sized, rules)
