-- Answers to the goals of `host_buffers::shows`.
use Rattle.host_buffers.proofs.Ways.{shows-is}
use borrow.Author.Rules.{rules}
use Rattle.host_buffers.proofs.shows.Goals as goal

pub returns : goal.returns
returns c = search (shows-is, rules)
