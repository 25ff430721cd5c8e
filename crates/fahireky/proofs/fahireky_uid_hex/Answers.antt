-- Answers to the goals of `fahireky::fahireky_uid_hex`.
use Rattle.fahireky.proofs.Ways.{writes-is}
use borrow.Author.Rules.{rules}
use Rattle.fahireky.proofs.fahireky_uid_hex.Goals as goal

pub returns : goal.returns
returns c = search (writes-is, rules)
