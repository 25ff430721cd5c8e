-- Answers to the goals of `wire::copy`.
use borrow.Author.Rules.{rules}
use Rattle.lore.proofs.Copy.{copy_more, copy_done}
use Rattle.wire.proofs.copy.Goals as goal

pub loop-i-preserved : goal.loop-i-preserved
loop-i-preserved c = search (copy_more, rules)

pub returns : goal.returns
returns c = search (copy_done, rules)
