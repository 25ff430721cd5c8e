-- Answers to the goals of `host_buffers::started`.
use Rattle.host_buffers.proofs.Ways.{started-kept, started-saved}
use borrow.Author.Rules.{rules}
use Rattle.host_buffers.proofs.started.Goals as goal

pub returns-then-changes_no_state : goal.returns-then-changes_no_state
returns-then-changes_no_state c = search (started-kept, rules)

pub returns : goal.returns
returns c = search (started-saved, rules)
