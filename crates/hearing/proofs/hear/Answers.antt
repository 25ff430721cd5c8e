-- Answers to the goals of `hearing::hear`.
use borrow.Author.Rules.{rules}
use mathlib.Core.Bool.{true}
use Rattle.hearing.proofs.Shows.{inside, less}
use Rattle.hearing.proofs.Hears.{begun, hears-unfit, ten-fit, hears-skipped, further, hears-within}
use Rattle.hearing.proofs.Hears.{hears-end}
use Rattle.hearing.proofs.hear.Goals as goal

pub loop-at-init : goal.loop-at-init
loop-at-init c = (search rules, begun _)

pub returns-in_default : goal.returns-in_default
returns-in_default c = search (hears-unfit, rules)

pub overflow_add-at : goal.overflow_add-at
overflow_add-at c = search (ten-fit, rules)

pub loop-at-smaller : goal.loop-at-smaller
loop-at-smaller c = search (less true, rules)

pub loop-at-preserved : goal.loop-at-preserved
loop-at-preserved c = (search (inside true, rules), search (further, rules))

pub returns-then-f-at : goal.returns-then-f-at
returns-then-f-at c = search (hears-skipped, rules)

pub concluded-requires : goal.concluded-requires
concluded-requires c = search (hears-within, rules)

pub returns : goal.returns
returns c = search (hears-end, rules)
