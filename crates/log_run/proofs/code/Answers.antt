-- Answers to the goals of `log_run::code`.
use Rattle.log_run.proofs.Ways.{code-refused}
use Rattle.std.proofs.Common.{rules}
use Rattle.log_run.proofs.code.Goals as goal

pub returns-in-Refused : goal.returns-in-Refused
returns-in-Refused c = search (code-refused, rules)
