-- The log after an event of its reader.
use Rattle.std.specs.Prelude.{ℕ, false, cond, List, take}
use Rattle.log_lines.specs.declared.Place.TheVariants.{Start}
use Rattle.log_lines.specs.declared.Reader.{Reader}
use Rattle.log_lines.specs.declared.Event.{Event}
use Rattle.log_lines.specs.Reading.{on_event}
use Rattle.log_run.specs.declared.Replay.{Replay}
use Rattle.log_run.specs.Run.{on_stage, stops, opens, takes}
use Rattle.log_feed.specs.declared.events.Log.{Log}

-- A reader before the first byte of a record.
abbrev pub idle : Reader
idle = record { place = Start; len = 0; over = false }

abbrev pub log_of : Reader → Replay → Log
log_of r v = record { reader = r; replay = v }

-- The end of line one, or of a line of a record.
unfoldable pub lined : Replay → Reader → List ℕ → Log
lined v r buf =
    on_stage v.stage (log_of idle (opens v (take r.len buf)))
    (cond r.over (log_of idle (stops v 22)) (log_of r v)) (λ k. log_of r v)

-- An empty line: it is line one, or it ends a record.
unfoldable pub emptied : Replay → Reader → List ℕ → Log
emptied v r buf =
    on_stage v.stage (lined v r buf)
    (cond r.over (log_of idle (stops v 22)) (log_of idle (takes v (take r.len buf))))
    (λ k. log_of r v)

-- Any event. A bad character ends the run with 22.
unfoldable pub met : Replay → Reader → Event → List ℕ → Log
met v r e buf = on_event e (log_of r v) (lined v r buf) (emptied v r buf) (log_of idle (stops v 22))
