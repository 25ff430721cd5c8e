-- Answers to the goals of `host_buffers::codes::coded`.
use Rattle.host_buffers.specs.Codes.{coded}
use borrow.Author.Rules.{rules}
use Rattle.host_buffers.proofs.codes.coded.Goals as goal

pub returns : goal.returns
unfolding coded
returns c = search rules
