-- Answers to the goals of `host_buffers::codes::read_uid`.
use borrow.Author.Rules.{rules}
use Rattle.host_buffers.specs.Codes.{read_uid}
use Rattle.host_buffers.proofs.codes.read_uid.Goals as goal

pub returns-in-Ok : goal.returns-in-Ok
unfolding read_uid
returns-in-Ok c = search rules

pub returns-in-Err : goal.returns-in-Err
unfolding read_uid
returns-in-Err c = search rules
