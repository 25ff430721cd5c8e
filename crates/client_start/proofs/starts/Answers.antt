-- Answers to the goals of `client_start::starts`.
use Rattle.client_start.proofs.Ways.{starts-now}
use borrow.Author.Rules.{rules}
use Rattle.client_start.proofs.starts.Goals as goal

pub returns : goal.returns
returns c = search (starts-now, rules)
