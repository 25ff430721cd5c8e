-- Answers to the goals of `log_feed::begun`.
use Rattle.log_feed.proofs.Ways.{began}
use borrow.Author.Rules.{rules}
use Rattle.log_feed.proofs.begun.Goals as goal

pub returns : goal.returns
returns c = search (began, rules)
