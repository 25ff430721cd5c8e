-- Answers to the goals of `log_run::Replay::answer`.
use Rattle.log_run.proofs.Ways.{before-first, before-record, at-end}
use Rattle.std.proofs.Common.{rules}
use Rattle.log_run.proofs.Replay.answer.Goals as goal

pub returns-in-First : goal.returns-in-First
returns-in-First c = search (before-first, rules)

pub returns-in-Running : goal.returns-in-Running
returns-in-Running c = search (before-record, rules)

pub returns-in-Ended : goal.returns-in-Ended
returns-in-Ended c = search (at-end, rules)
