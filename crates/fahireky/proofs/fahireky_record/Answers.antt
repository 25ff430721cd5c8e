-- Answers to the goals of `fahireky::fahireky_record`.
use Rattle.fahireky.proofs.Ways.{records_is}
use borrow.Author.Rules.{rules}
use Rattle.fahireky.proofs.fahireky_record.Goals as goal

pub returns : goal.returns
returns c = search (records_is, rules)
