-- Answers to the goals of `log_listing::put_all`.
use Rattle.log_listing.proofs.Ways.{text-wrote}
use borrow.Author.Rules.{rules}
use Rattle.log_listing.proofs.put_all.Goals as goal

pub returns : goal.returns
returns c = search (text-wrote, rules)
