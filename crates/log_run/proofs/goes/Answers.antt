-- Answers to the goals of `log_run::goes`.
use Rattle.log_run.proofs.Ways.{after-onward, after-end}
use Rattle.std.proofs.Common.{rules}
use Rattle.log_run.proofs.goes.Goals as goal

pub returns-then-is_onward : goal.returns-then-is_onward
returns-then-is_onward c = search (after-onward, rules)

pub returns : goal.returns
returns c = search (after-end, rules)
