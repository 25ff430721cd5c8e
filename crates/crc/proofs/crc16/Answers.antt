-- Answers to the goals of `crc::crc16`.
use borrow.Author.Rules.{rules}
use Rattle.crc.proofs.Steps.{two_more, pairs_done, one_more, done}
use Rattle.crc.proofs.crc16.Goals as goal

pub loop-a-preserved : goal.loop-a-preserved
loop-a-preserved c = search (two_more, rules)

pub loop-b-init : goal.loop-b-init
loop-b-init c = search (pairs_done, rules)

pub loop-b-preserved : goal.loop-b-preserved
loop-b-preserved c = search (one_more, rules)

pub returns : goal.returns
returns c = search (done, rules)
