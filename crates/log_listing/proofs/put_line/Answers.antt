-- Answers to the goals of `log_listing::put_line`.
use Rattle.log_listing.proofs.Ways.{line_wrote}
use borrow.Author.Rules.{rules}
use Rattle.log_listing.proofs.put_line.Goals as goal

pub returns-clause-out_after : goal.returns-clause-out_after
returns-clause-out_after c = search (line_wrote, rules)
