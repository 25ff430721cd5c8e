-- Answers to the goals of `log_run::Replay::takes`.
use Rattle.log_run.proofs.Ways.{took}
use Rattle.std.proofs.Common.{rules}
use Rattle.log_run.proofs.Replay.takes.Goals as goal

pub returns : goal.returns
returns c = search (took, rules)
