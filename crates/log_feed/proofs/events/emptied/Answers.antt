-- Answers to the goals of `log_feed::events::emptied`.
use Rattle.log_feed.proofs.events.Ways.{first-empty, record-over, record-taken, ended-empty}
use borrow.Author.Rules.{rules}
use Rattle.log_feed.proofs.events.emptied.Goals as goal

pub returns-then-r : goal.returns-then-r
returns-then-r c = search (record-over, rules)

pub returns-in-First : goal.returns-in-First
returns-in-First c = search (first-empty, rules)

pub returns-else-r : goal.returns-else-r
returns-else-r c = search (record-taken, rules)

pub returns-in-Ended : goal.returns-in-Ended
returns-in-Ended c = search (ended-empty, rules)
