-- Answers to the goals of `log_feed::events::met`.
use Rattle.log_feed.proofs.events.Ways.{met-more, met-line, met-empty, met-bad}
use borrow.Author.Rules.{rules}
use Rattle.log_feed.proofs.events.met.Goals as goal

pub returns-in-More : goal.returns-in-More
returns-in-More c = search (met-more, rules)

pub returns-in-Line : goal.returns-in-Line
returns-in-Line c = search (met-line, rules)

pub returns-in-Empty : goal.returns-in-Empty
returns-in-Empty c = search (met-empty, rules)

pub returns-in-Bad : goal.returns-in-Bad
returns-in-Bad c = search (met-bad, rules)
