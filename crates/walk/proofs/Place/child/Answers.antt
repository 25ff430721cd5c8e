-- Answers to the goals of `walk::Place::child`.
use Rattle.walk.proofs.Ways.{child-zero, child-over, child-one}
use borrow.Author.Rules.{rules}
use Rattle.walk.proofs.Place.child.Goals as goal

pub returns-then-not-bit : goal.returns-then-not-bit
returns-then-not-bit c = search (child-zero, rules)

pub returns-then-d-ge-MAX_BITS : goal.returns-then-d-ge-MAX_BITS
returns-then-d-ge-MAX_BITS c = search (child-over, rules)

pub returns : goal.returns
returns c = search (child-one, rules)
