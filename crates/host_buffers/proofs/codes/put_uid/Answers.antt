-- Answers to the goals of `host_buffers::codes::put_uid`.
use Rattle.host_buffers.proofs.codes.Ways.{uid-short, uid-put, uid-room}
use borrow.Author.Rules.{rules}
use Rattle.host_buffers.proofs.codes.put_uid.Goals as goal

pub returns-then-out-n : goal.returns-then-out-n
returns-then-out-n c = search (uid-short, rules)

pub copy_from_slice-requires : goal.copy_from_slice-requires
copy_from_slice-requires c = search (uid-room, rules)

pub returns : goal.returns
returns c = search (uid-put, rules)
