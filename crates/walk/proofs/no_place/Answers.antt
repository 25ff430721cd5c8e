-- Answers to the goals of `walk::no_place`.
use Rattle.walk.proofs.Ways.{no-place-is}
use borrow.Author.Rules.{rules}
use Rattle.walk.proofs.no_place.Goals as goal

pub returns : goal.returns
returns c = search (no-place-is, rules)
