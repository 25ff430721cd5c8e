-- The log after one byte, after a piece, and at the end of the input.
use Rattle.std.specs.Prelude.{ℕ, Bool, true, false, cond, List, [], ◌∷◌}
use Rattle.log_lines.specs.declared.Place.{Place}
use Rattle.log_lines.specs.declared.Event.{Event}
use Rattle.log_lines.specs.Reading.{Stepped, step, Read, feed, on_event, on_place}
use Rattle.log_run.specs.declared.Stage.{Stage}
use Rattle.log_run.specs.declared.Replay.{Replay}
use Rattle.log_run.specs.Run as Run
use Rattle.log_run.specs.Run.{on_stage, is_ended}
use Rattle.log_feed.specs.declared.events.Log.{Log}
use Rattle.log_feed.specs.Events.{idle, log_of, met}
use Rattle.log_feed.specs.declared.Span.{Span}

-- Whether lines are joined to a record: only while a Select is out.
abbrev pub joins : Stage → Bool
joins s = on_stage s false true (λ k. false)

-- Whether a place is inside a line.
abbrev pub inside : Place → Bool
inside p = on_place p false true (λ h. true)

-- Whether there was no event: the piece was read to its end.
abbrev pub more : Event → Bool
more e = on_event e true false false false

-- A log, and the buffer that is lent to it.
pub record Logged : Type 0 where
  pub log : Log
  pub bytes : List ℕ

-- The log after a step of its reader.
abbrev pub after : Replay → Stepped → Logged
after v s = record { log = met v s.step.reader s.step.event s.bytes; bytes = s.bytes }

-- One byte. After the end of the run nothing changes.
unfoldable pub byte : Logged → ℕ → Logged
byte s b = cond (is_ended s.log.replay.stage) s (after s.log.replay (step s.log.reader s.bytes b))

unfoldable pub piece : Logged → List ℕ → Logged
piece s [] = s
piece s (b ∷ bs) = piece (byte s b) bs

-- A part of a piece, and the buffer after it.
pub record Spanned : Type 0 where
  pub span : Span
  pub bytes : List ℕ

-- The log after what its reader read of a piece.
abbrev pub reached : Replay → Read → Spanned
reached v f = record {
  span = record
      { log = met v f.fed.reader f.fed.event f.bytes; at = f.fed.at; done = more f.fed.event };
  bytes =
      f.bytes;
}

-- A piece is read from place i on, up to the next event or to its end.
unfoldable pub stretch : Log → List ℕ → ℕ → List ℕ → Spanned
stretch w buf i xs =
    cond (is_ended w.replay.stage) (record { span = record { log = w; at = i; done = true }; bytes = buf })
    (reached w.replay (feed (joins w.replay.stage) i w.reader buf xs))

unfoldable pub begun : Log
begun = log_of idle Run.begun

-- "A line ends in LF; a last one that isn't empty may lack it."
unfoldable pub last_line : Logged → Logged
last_line s = cond (inside s.log.reader.place) (piece s (10 ∷ [])) s
