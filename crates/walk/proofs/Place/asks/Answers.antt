-- Answers to the goals of `walk::Place::asks`.
use Rattle.walk.proofs.Ways.{asks-deep, asks-path, asks-mine, asks-other, asks-nobody}
use borrow.Author.Rules.{rules}
use Rattle.walk.proofs.Place.asks.Goals as goal

pub returns-then-d-gt-MAX_BITS : goal.returns-then-d-gt-MAX_BITS
returns-then-d-gt-MAX_BITS c = search (asks-deep, rules)

pub returns-in-Asked : goal.returns-in-Asked
returns-in-Asked c = search (asks-path, rules)

pub returns-in-Mine : goal.returns-in-Mine
returns-in-Mine c = search (asks-mine, rules)

pub returns-in-Other : goal.returns-in-Other
returns-in-Other c = search (asks-other, rules)

pub returns-in-Leaving : goal.returns-in-Leaving
returns-in-Leaving c = search (asks-nobody, rules)
