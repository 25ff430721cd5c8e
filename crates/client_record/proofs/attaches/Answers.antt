-- Answers to the goals of `client_record::attaches`.
use Rattle.client_record.proofs.Ways.{attaches-is}
use borrow.Author.Rules.{rules}
use Rattle.client_record.proofs.attaches.Goals as goal

pub returns : goal.returns
returns c = search (attaches-is, rules)
