-- Answers to the goals of `log_feed::finish`.
use Rattle.log_feed.proofs.Ways.{answered, left-bytes}
use borrow.Author.Rules.{rules}
use Rattle.log_feed.proofs.finish.Goals as goal

pub returns-clause-value : goal.returns-clause-value
returns-clause-value c = search (answered, rules)

pub returns-clause-buf_after : goal.returns-clause-buf_after
returns-clause-buf_after c = search (left-bytes, rules)
