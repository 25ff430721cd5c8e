-- The invariants and measures of `walk::Place::climb`.
use Prim.Native.Nat.{◌≤◌}
use lib.ListN.{length}
use mathlib.Core.Path.{◌≡◌}
use Rattle.walk_table.specs.declared.Table.{Table}
use Rattle.walk.specs.Moves.{walk_of, climb}
use Rattle.walk.proofs.Place.climb.Given as goal

abbrev pub invariant-loop-d : goal.invariant-loop-d
invariant-loop-d l =
    ((l.d ≤ 128) × (length l.marks ≡ 128))
    × ((t : Table) → climb l.d (walk_of (record { path = l.path; depth = l.d; marks = l.marks; candidate = l.self.candidate }) t)
    ≡ climb l.self.depth (walk_of l.self t))

abbrev pub decreases-loop-d : goal.decreases-loop-d
decreases-loop-d l = l.d
