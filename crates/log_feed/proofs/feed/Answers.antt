-- Answers to the goals of `log_feed::feed`.
use borrow.Author.Rules.{rules}
use Rattle.log_feed.proofs.Cut.{within, less, further, to_end}
use Rattle.log_feed.proofs.feed.Goals as goal

pub loop-smaller : goal.loop-smaller
loop-smaller c = search (less, rules)

pub loop-preserved : goal.loop-preserved
loop-preserved c = search (within, further, rules)

pub returns : goal.returns
returns c = search (to_end, rules)
