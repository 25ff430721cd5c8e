-- Answers to the goals of `fahireky::fahireky_hear`.
use Rattle.fahireky.proofs.Ways.{hears-short, hears-is}
use borrow.Author.Rules.{rules}
use Rattle.fahireky.proofs.fahireky_hear.Goals as goal

pub returns-in-Some : goal.returns-in-Some
returns-in-Some c = search (hears-short, rules)

pub returns : goal.returns
returns c = search (hears-is, rules)
