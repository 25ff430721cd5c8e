-- Answers to the goals of `fahireky::fahireky_request`.
use Rattle.fahireky.proofs.Ways.{requests-short, requests-is}
use borrow.Author.Rules.{rules}
use Rattle.fahireky.proofs.fahireky_request.Goals as goal

pub returns-in-Some : goal.returns-in-Some
returns-in-Some c = search (requests-short, rules)

pub returns : goal.returns
returns c = search (requests-is, rules)
