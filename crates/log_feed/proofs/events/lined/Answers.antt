-- Answers to the goals of `log_feed::events::lined`.
use Rattle.log_feed.proofs.events.Ways.{first-line, line-over, line-joined, ended-line}
use borrow.Author.Rules.{rules}
use Rattle.log_feed.proofs.events.lined.Goals as goal

pub returns-then-r : goal.returns-then-r
returns-then-r c = search (line-over, rules)

pub returns-in-First : goal.returns-in-First
returns-in-First c = search (first-line, rules)

pub returns-else-r : goal.returns-else-r
returns-else-r c = search (line-joined, rules)

pub returns-in-Ended : goal.returns-in-Ended
returns-in-Ended c = search (ended-line, rules)
