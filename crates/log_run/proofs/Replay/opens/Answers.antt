-- Answers to the goals of `log_run::Replay::opens`.
use Rattle.log_run.proofs.Ways.{no_byte, other_byte, opened}
use Rattle.std.proofs.Common.{rules}
use Rattle.log_run.proofs.Replay.opens.Goals as goal

pub returns-then-line-eq0 : goal.returns-then-line-eq0
returns-then-line-eq0 c = search (no_byte, rules)

pub returns-then-line-ne1 : goal.returns-then-line-ne1
returns-then-line-ne1 c = search (other_byte, rules)

pub returns : goal.returns
returns c = search (opened, rules)
