-- Answers to the goals of `reader::fields`.
use Rattle.reader.proofs.Ways.{fields_read}
use borrow.Author.Rules.{rules}
use Rattle.reader.proofs.fields.Goals as goal

pub returns : goal.returns
returns c = search (fields_read, rules)
