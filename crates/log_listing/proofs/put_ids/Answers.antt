-- Answers to the goals of `log_listing::put_ids`.
use borrow.Author.Rules.{rules}
use Rattle.log_listing.proofs.Ways.{none_yet, one_more, all-wrote}
use Rattle.log_listing.proofs.put_ids.Goals as goal

pub loop-i-init : goal.loop-i-init
loop-i-init c = (search rules, none_yet _ _)

pub loop-i-preserved : goal.loop-i-preserved
loop-i-preserved c = (search rules, search (one_more, rules))

pub returns-clause-out_after : goal.returns-clause-out_after
returns-clause-out_after c = search (all-wrote, rules)
