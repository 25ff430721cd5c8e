-- Answers to the goals of `walk::Place::climb`.
use Rattle.walk.proofs.Ways.{deep, climb-less, climb-on, climb-end}
use borrow.Author.Rules.{rules}
use Rattle.walk.proofs.Place.climb.Goals as goal

pub overflow_sub-d : goal.overflow_sub-d
overflow_sub-d c = search (deep, rules)

pub loop-d-smaller : goal.loop-d-smaller
loop-d-smaller c = search (climb-less, rules)

pub loop-d-preserved : goal.loop-d-preserved
loop-d-preserved c = (search rules, search (climb-on, rules))

pub returns-clause-t_value : goal.returns-clause-t_value
returns-clause-t_value c = search (climb-end, rules)

-- NOTE -- does.
