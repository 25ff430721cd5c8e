-- The invariants and measures of `log_feed::feed`.
use mathlib.Core.Path.{◌≡◌}
use lib.ListN.{length, drop}
use Prim.Native.Nat.{◌-◌, ◌≤◌}
use Rattle.log_feed.specs.FeedMachine.{piece}
use Rattle.log_feed.proofs.feed.Given as goal

abbrev pub invariant-loop : goal.invariant-loop
invariant-loop l =
    (l.i ≤ length l.bytes) × (length l.buf ≡ length l.initial.buf)
    × (piece (record { log = l.w; bytes = l.buf }) (drop l.i l.bytes) ≡ piece (record { log = l.initial.w; bytes = l.initial.buf }) l.bytes)

abbrev pub decreases-loop : goal.decreases-loop
decreases-loop l = length l.bytes - l.i
