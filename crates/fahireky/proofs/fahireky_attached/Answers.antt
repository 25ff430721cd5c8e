-- Answers to the goals of `fahireky::fahireky_attached`.
use Rattle.fahireky.proofs.Ways.{views-short, views-is}
use borrow.Author.Rules.{rules}
use Rattle.fahireky.proofs.fahireky_attached.Goals as goal

pub returns-in-Some : goal.returns-in-Some
returns-in-Some c = search (views-short, rules)

pub returns : goal.returns
returns c = search (views-is, rules)
