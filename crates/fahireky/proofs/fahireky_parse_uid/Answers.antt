-- Answers to the goals of `fahireky::fahireky_parse_uid`.
use Rattle.fahireky.proofs.Ways.{read_is}
use borrow.Author.Rules.{rules}
use Rattle.fahireky.proofs.fahireky_parse_uid.Goals as goal

pub returns : goal.returns
returns c = search (read_is, rules)
