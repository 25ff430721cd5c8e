-- The run of a whole input: line one, then one record after the other.
use Rattle.std.specs.Prelude.{ℕ, cond, List, [], ◌∷◌}
use Rattle.paper.specs.Hearing.{on_some}
use Rattle.paper.specs.Text.{unhex}
use Rattle.paper.specs.Log.{Records, missing, spoilt, next, joined, lines}
use Rattle.log_run.specs.declared.Replay.{Replay}
use Rattle.log_run.specs.Run.{is_ended, begun, stops, opens, takes}

-- Hands in each record; those after the end are ignored.
unfoldable pub talk : Replay → Records → Replay
talk v missing = v
talk v spoilt = cond (is_ended v.stage) v (stops v 22)
talk v (next bytes rs) = talk (cond (is_ended v.stage) v (takes v bytes)) rs

-- Line one, read as a whole, and the lines after it.
unfoldable pub opened_by : List (List ℕ) → Replay
opened_by [] = begun
opened_by (l ∷ ls) = on_some (unhex l) (stops begun 22) (λ bytes. talk (opens begun bytes) (joined 4096 [] ls))

-- The run of an input.
unfoldable pub run_of : List ℕ → Replay
run_of input = opened_by (lines input)
