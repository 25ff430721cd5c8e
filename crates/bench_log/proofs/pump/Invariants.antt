-- The invariant of `bench_log::pump`.
use Rattle.log_feed.specs.FeedMachine.{begun}
use Rattle.log_feed.specs.Pieces.{Reached}
use Rattle.bench_log.proofs.pump.Given as goal

-- The log is the one after what was read so far.
abbrev pub invariant-loop : goal.invariant-loop
invariant-loop g l = Reached (record { log = begun; bytes = l.fn.buf }) (record { log = l.log; bytes = l.buf })
