-- Answers to the goals of `log_feed::last_line`.
use Rattle.log_feed.proofs.Ways.{closed, no_line}
use borrow.Author.Rules.{rules}
use Rattle.log_feed.proofs.last_line.Goals as goal

pub returns-then-inside : goal.returns-then-inside
returns-then-inside c = search (closed, rules)

pub returns : goal.returns
returns c = search (no_line, rules)
