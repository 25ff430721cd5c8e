-- Answers to the goals of `bench_log::pump`.
use Rattle.log_feed.proofs.Reach.{at-begin, one_more}
use borrow.Author.Rules.{rules}
use Rattle.bench_log.proofs.pump.Goals as goal

pub loop-init : goal.loop-init
loop-init g c = search (at-begin, rules)

pub loop-preserved : goal.loop-preserved
loop-preserved g c = search (one_more, rules)
