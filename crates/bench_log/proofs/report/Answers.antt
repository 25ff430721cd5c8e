-- Answers to the goals of `bench_log::report`.
use Rattle.bench_log.proofs.Ways.{reported}
use borrow.Author.Rules.{rules}
use Rattle.bench_log.proofs.report.Goals as goal

pub returns : goal.returns
returns g c = search (reported, rules)
