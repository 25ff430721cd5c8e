-- A lemma for each way through the functions other than feed, with the facts known there as its premises.
use Prim.Native.Nat.{ℕ}
use mathlib.Core.Bool.{Bool, true, false}
use mathlib.Core.List.{List, [], ◌∷◌}
use mathlib.Core.Path.{◌≡◌, sym, ◌∙◌, ap}
use Rattle.log_lines.specs.declared.Reader.{Reader}
use Rattle.log_lines.specs.declared.Fed.{Fed}
use Rattle.log_lines.specs.Reading.{feed}
use Rattle.log_run.specs.declared.Replay.{Replay}
use Rattle.log_run.specs.Run as Run
use Rattle.log_run.specs.Run.{answer, is_ended}
use Rattle.log_listing.specs.declared.Answer.{Answer}
use Rattle.log_feed.specs.declared.events.Log.{Log}
use Rattle.log_feed.specs.Events.{idle, log_of, met}
use Rattle.log_feed.specs.FeedMachine.{joins, inside, more, begun, Logged, reached, stretch, piece, last_line}

pub began : (w : Log) (r : Reader) (v : Replay) → r ≡ idle → v ≡ Run.begun → w ≡ log_of r v → w ≡ begun
unfolding begun
began w r v er ev ew = ew ∙ rw (er, ev)

module _ (w : Log) (buf xs : List ℕ) (i : ℕ) (done : Bool) (ed : done ≡ is_ended w.replay.stage) where
  pub no-stretch : done ≡ true → record { span = record { log = w; at = i; done = true }; bytes = buf }
      ≡ stretch w buf i xs
  unfolding stretch
  no-stretch h = rw (sym ed ∙ h)

  pub stretched : (f : Fed) (buf' : List ℕ) (j m : Bool) (u : Log) → done ≡ false → j ≡ joins w.replay.stage
      → record { fed = f; bytes = buf' } ≡ feed j i w.reader buf xs
      → u ≡ met w.replay f.reader f.event buf' → m ≡ more f.event
      → record { span = record { log = u; at = f.at; done = m }; bytes = buf' } ≡ stretch w buf i xs
  unfolding stretch
  stretched f buf' j m u h ej e eu em = rw (eu, em, sym ed ∙ h) (ap (reached w.replay) (rw ej at e))

module _ (w : Log) (buf : List ℕ) (b : Bool) (e : b ≡ inside w.reader.place) where
  pub closed : (x : Log) (buf' : List ℕ) → b ≡ true
      → record { log = x; bytes = buf' } ≡ piece (record { log = w; bytes = buf }) (10 ∷ [])
      → record { log = x; bytes = buf' } ≡ last_line (record { log = w; bytes = buf })
  unfolding last_line
  closed x buf' t q = q ∙ rw (sym e ∙ t)

  pub no_line : b ≡ false → record { log = w; bytes = buf } ≡ last_line (record { log = w; bytes = buf })
  unfolding last_line
  no_line t = rw (sym e ∙ t)

module _ (s : Logged) (x : Log) (buf : List ℕ) (e : record { log = x; bytes = buf } ≡ last_line s) where
  pub answered : (a : Answer) → a ≡ answer x.replay → a ≡ answer (last_line s).log.replay
  answered a ea = ea ∙ ap (λ (t : Logged). answer t.log.replay) e

  pub left-bytes : buf ≡ (last_line s).bytes
  left-bytes = ap (λ (t : Logged). t.bytes) e
