-- Answers to the goals of `walk::nobody`.
use borrow.Author.Rules.{rules}
use Rattle.walk.specs.Moves.{nobody}
use Rattle.walk.proofs.nobody.Goals as goal

pub returns : goal.returns
unfolding nobody
returns c = search rules
