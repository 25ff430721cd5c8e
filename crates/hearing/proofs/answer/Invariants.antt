-- The invariants and measures of `hearing::answer`.
use Prim.Native.Nat.{◌≤◌, ◌-◌}
use lib.ListN.{length}
use Rattle.hearing.proofs.Answers.{Reach}
use Rattle.hearing.proofs.answer.Given as goal

abbrev pub invariant-loop-f : goal.invariant-loop-f
invariant-loop-f l = (l.at ≤ length l.bytes) × Reach l.bytes l.at

abbrev pub decreases-loop-f : goal.decreases-loop-f
decreases-loop-f l = length l.bytes - l.at
