-- Answers to the goals of `walk::mark_at`.
use Rattle.walk.proofs.Ways.{mark-in}
use borrow.Author.Rules.{rules}
use Rattle.walk.proofs.mark_at.Goals as goal

pub returns-else-d-eq0 : goal.returns-else-d-eq0
returns-else-d-eq0 c = search (mark-in, rules)
