-- Answers to the goals of `client_record::record`.
use Rattle.client_record.proofs.Ways.{record_is}
use borrow.Author.Rules.{rules}
use Rattle.client_record.proofs.record.Goals as goal

pub returns : goal.returns
returns c = search (record_is, rules)
