-- A lemma for each way through the handling of an event, with the facts known there as its premises.
use Prim.Native.Nat.{ℕ}
use mathlib.Core.Bool.{true, false, cond}
use mathlib.Core.List.{List}
use mathlib.Core.Path.{◌≡◌, sym, ◌∙◌, ap}
use lib.ListN.{take}
use Rattle.log_lines.specs.declared.Event.{Event}
use Rattle.log_lines.specs.declared.Event.TheVariants.{More, Line, Empty, Bad}
use Rattle.log_lines.specs.declared.Reader.{Reader}
use Rattle.log_run.specs.declared.Stage.{Stage}
use Rattle.log_run.specs.declared.Stage.TheVariants.{First, Running, Ended}
use Rattle.log_run.specs.declared.Replay.{Replay}
use Rattle.log_run.specs.Run.{on_stage, stops, opens, takes}
use Rattle.log_feed.specs.declared.events.Log.{Log}
use Rattle.log_feed.specs.Events.{idle, log_of, lined, emptied, met}

module _ (v : Replay) (r : Reader) (buf : List ℕ) (w : Log) where
  module _ (x : Reader) (line : List ℕ) (u : Replay) (el : line ≡ take r.len buf) (ex : x ≡ idle)
      (ew : w ≡ log_of x u) where
    pub first-line : v.stage ≡ First → u ≡ opens v line → w ≡ lined v r buf
    unfolding lined
    first-line s eu = ew ∙ rw (ex, eu, el, s)

    pub record-taken : v.stage ≡ Running → r.over ≡ false → u ≡ takes v line → w ≡ emptied v r buf
    unfolding emptied
    record-taken s o eu = ew ∙ rw (ex, eu, el, s, o)

  module _ (x : Reader) (u : Replay) (ex : x ≡ idle) (eu : u ≡ stops v 22) (ew : w ≡ log_of x u) where
    pub line-over : v.stage ≡ Running → r.over ≡ true → w ≡ lined v r buf
    unfolding lined
    line-over s o = ew ∙ rw (ex, eu, s, o)

    pub record-over : v.stage ≡ Running → r.over ≡ true → w ≡ emptied v r buf
    unfolding emptied
    record-over s o = ew ∙ rw (ex, eu, s, o)

    pub met-bad : (e : Event) → e ≡ Bad → w ≡ met v r e buf
    unfolding met
    met-bad e q = ew ∙ rw (q, ex, eu)

  module _ (ew : w ≡ log_of r v) where
    pub line-joined : v.stage ≡ Running → r.over ≡ false → w ≡ lined v r buf
    unfolding lined
    line-joined s o = ew ∙ rw (s, o)

    pub ended-line : (k : ℕ) → v.stage ≡ Ended k → w ≡ lined v r buf
    unfolding lined
    ended-line k s = ew ∙ rw s

    pub ended-empty : (k : ℕ) → v.stage ≡ Ended k → w ≡ emptied v r buf
    unfolding emptied
    ended-empty k s = ew ∙ rw s

    pub met-more : (e : Event) → e ≡ More → w ≡ met v r e buf
    unfolding met
    met-more e q = ew ∙ rw q

  pub first-empty : v.stage ≡ First → w ≡ lined v r buf → w ≡ emptied v r buf
  unfolding emptied
  first-empty s ew = ew ∙ ap (λ (t : Stage). on_stage t (lined v r buf)
      (cond r.over (log_of idle (stops v 22)) (log_of idle (takes v (take r.len buf)))) (λ k. log_of r v)) (sym s)

  pub met-line : (e : Event) → e ≡ Line → w ≡ lined v r buf → w ≡ met v r e buf
  unfolding met
  met-line e q ew = ew ∙ rw q

  pub met-empty : (e : Event) → e ≡ Empty → w ≡ emptied v r buf → w ≡ met v r e buf
  unfolding met
  met-empty e q ew = ew ∙ rw q
