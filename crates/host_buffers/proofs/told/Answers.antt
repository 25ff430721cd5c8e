-- Answers to the goals of `host_buffers::told`.
use Rattle.host_buffers.proofs.Ways.{told-kept, told-saved}
use borrow.Author.Rules.{rules}
use Rattle.host_buffers.proofs.told.Goals as goal

pub returns-then-changes_no_state : goal.returns-then-changes_no_state
returns-then-changes_no_state c = search (told-kept, rules)

pub returns : goal.returns
returns c = search (told-saved, rules)
