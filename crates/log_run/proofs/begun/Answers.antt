-- Answers to the goals of `log_run::begun`.
use Rattle.log_run.proofs.Ways.{began}
use Rattle.std.proofs.Common.{rules}
use Rattle.log_run.proofs.begun.Goals as goal

pub returns : goal.returns
returns c = search (began, rules)
