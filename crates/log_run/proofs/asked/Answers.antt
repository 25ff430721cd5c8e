-- Answers to the goals of `log_run::asked`.
use Rattle.log_run.proofs.Ways.{handed-out, asks-ended}
use Rattle.std.proofs.Common.{rules}
use Rattle.log_run.proofs.asked.Goals as goal

pub returns-then-is_granted : goal.returns-then-is_granted
returns-then-is_granted c = search (handed-out, rules)

pub returns : goal.returns
returns c = search (asks-ended, rules)
