-- Answers to the goals of `hearing::answer`.
use borrow.Author.Rules.{rules}
use mathlib.Core.Bool.{true, false}
use Rattle.hearing.proofs.Shows.{inside, less}
use Rattle.hearing.proofs.Answers.{begun, further, ended, answers-whole, answers-bad}
use Rattle.hearing.proofs.answer.Goals as goal

pub loop-f-init : goal.loop-f-init
loop-f-init c = (search rules, begun _)

pub loop-f-smaller-in-Ok : goal.loop-f-smaller-in-Ok
loop-f-smaller-in-Ok c = search (less true, rules)

pub loop-f-preserved-in-Ok : goal.loop-f-preserved-in-Ok
loop-f-preserved-in-Ok c = (search (inside true, rules), search (further true, rules))

pub loop-f-smaller : goal.loop-f-smaller
loop-f-smaller c = search (less false, rules)

pub loop-f-preserved : goal.loop-f-preserved
loop-f-preserved c = (search (inside false, rules), search (further false, rules))

pub returns-in-Err-Short : goal.returns-in-Err-Short
returns-in-Err-Short c = search (ended false, rules)

pub returns-in-Err-TooLong : goal.returns-in-Err-TooLong
returns-in-Err-TooLong c = search (ended true, rules)

pub returns-then-bad-ne-REQUEST : goal.returns-then-bad-ne-REQUEST
returns-then-bad-ne-REQUEST c = search (answers-bad, rules)

pub returns-then-f-ne-REQUEST : goal.returns-then-f-ne-REQUEST
returns-then-f-ne-REQUEST c = search (answers-whole, rules)
