-- Answers to the goals of `log_feed::stretch`.
use borrow.Author.Rules.{rules}
use Rattle.log_feed.proofs.Ways.{no-stretch, stretched}
use Rattle.log_feed.proofs.stretch.Goals as goal

pub returns-then-is_ended : goal.returns-then-is_ended
returns-then-is_ended c = search (no-stretch, rules)

pub returns : goal.returns
returns c = search (stretched, rules)
