-- Reading a piece up to an event, and on from there, is reading it byte by byte.
use Prim.Native.Nat.{ℕ, suc, ◌+◌, ◌-◌, ◌<◌, ◌≤◌}
use mathlib.Core.Bool.{Bool, true, false, ◌||◌, not, false≢true}
use mathlib.Core.List.{List, [], ◌∷◌}
use mathlib.Core.Path.{◌≡◌, refl, sym, ◌∙◌, ap}
use native.Mathlib.Omega.{arith}
use lib.ListN.{length, drop, length-drop, drop_of_length-le}
use lib.Seq.{drop-drop}
use Rattle.log_lines.specs.declared.Reader.{Reader}
use Rattle.log_lines.specs.declared.Event.{Event}
use Rattle.log_lines.specs.declared.Event.TheVariants.{More, Line, Empty, Bad}
use Rattle.log_lines.specs.Reading.{Stepped, step, halts, feed, went, Read}
use Rattle.log_run.specs.declared.Stage.{Stage}
use Rattle.log_run.specs.declared.Stage.TheVariants.{First, Running, Ended}
use Rattle.log_run.specs.declared.Replay.{Replay}
use Rattle.log_run.specs.Run.{is_ended}
use Rattle.log_feed.specs.declared.events.Log.{Log}
use Rattle.log_feed.specs.Events.{lined, met, log_of}
use Rattle.lore.proofs.Choice.{by-test}
use Rattle.log_feed.specs.declared.Span.{Span}
use Rattle.log_feed.specs.FeedMachine.{Logged, byte, piece, more, joins, Spanned, reached, stretch}

abbrev pub at : Reader → Replay → List ℕ → Logged
at r v buf = record { log = log_of r v; bytes = buf }

-- The log after what its reader read of a piece.
abbrev on : Replay → Read → Logged
on v f = record { log = met v f.fed.reader f.fed.event f.bytes; bytes = f.bytes }

-- A log whose run has ended stays as it is.
pub still : (r : Reader) (v : Replay) (buf : List ℕ) → is_ended v.stage ≡ true → (xs : List ℕ)
    → piece (at r v buf) xs ≡ at r v buf
unfolding piece byte
still r v buf e [] = refl
still r v buf e (b ∷ bs) = ap (λ (s : Logged). piece s bs) kept ∙ still r v buf e bs
  where
    kept : byte (at r v buf) b ≡ at r v buf
    kept = rw e

-- The reader reads k bytes of xs, up to an event. Reading the rest byte by byte then gives the log after all of xs.
record Cut (xs : List ℕ) (i : ℕ) (r : Reader) (v : Replay) (buf : List ℕ) : Type 0 where
  k : ℕ
  place : (feed (joins v.stage) i r buf xs).fed.at ≡ i + k
  inside : k ≤ length xs
  same : piece (at r v buf) xs ≡ piece (on v (feed (joins v.stage) i r buf xs)) (drop k xs)
  all : more (feed (joins v.stage) i r buf xs).fed.event ≡ true → k ≡ length xs
  some : more (feed (joins v.stage) i r buf xs).fed.event ≡ false → 0 < k

-- After a character that reading does not stop at, only the reader of the log has changed.
passed : (v : Replay) (r : Reader) (buf : List ℕ) → is_ended v.stage ≡ false → (e : Event)
    → halts e (joins v.stage) r.over ≡ false → met v r e buf ≡ log_of r v
unfolding met lined
passed v r buf run More h = refl
passed v r buf run Line h = go v.stage refl r.over refl h
  where
    go : (s : Stage) → v.stage ≡ s → (o : Bool) → r.over ≡ o → (o || not (joins s)) ≡ false
        → lined v r buf ≡ log_of r v
    go First es o eo h = absurd (never o h)
      where
        never : (o : Bool) → (o || true) ≡ false → ⊥
        never true h = false≢true (sym h)
        never false h = false≢true (sym h)
    go Running es true eo h = absurd (false≢true (sym h))
    go Running es false eo h = rw (es, eo)
    go (Ended k) es o eo h = rw es
passed v r buf run Empty h = absurd (false≢true (sym h))
passed v r buf run Bad h = absurd (false≢true (sym h))

-- Where reading stopped there was an event.
no_more : (e : Event) (j o : Bool) → halts e j o ≡ true → more e ≡ true → ⊥
no_more More j o h m = false≢true h
no_more Line j o h m = false≢true m
no_more Empty j o h m = false≢true m
no_more Bad j o h m = false≢true m

module _ (v : Replay) (run : is_ended v.stage ≡ false) (b : ℕ) (bs : List ℕ) (i : ℕ) (r : Reader) (buf : List ℕ) where
  abbrev j : Bool
  j = joins v.stage

  abbrev s : Stepped
  s = step r buf b

  running : byte (at r v buf) b ≡ on v (went 0 s)
  unfolding byte
  running = rw run

  abbrev Halts : Bool → Type 0
  Halts h = halts s.step.event j s.step.reader.over ≡ h

  stopped : Halts true → Cut (b ∷ bs) i r v buf
  unfolding piece feed
  stopped q = record {
    k = 1;
    place = ap (λ (f : Read). f.fed.at) f;
    inside = omega arith;
    same = ap (λ (l : Logged). piece l bs) running ∙ sym (ap (λ (f : Read). piece (on v f) bs) f);
    all = λ m. absurd (no_more s.step.event j s.step.reader.over q
        (sym (ap (λ (f : Read). more f.fed.event) f) ∙ m));
    some = λ m. omega arith;
  }
    where
      f : feed j i r buf (b ∷ bs) ≡ went (i + 1) s
      f = rw q

  onto : Halts false → Cut bs (i + 1) s.step.reader v s.bytes → Cut (b ∷ bs) i r v buf
  unfolding piece feed
  onto q c = record {
    k = suc c.k;
    place = ap (λ (f : Read). f.fed.at) f ∙ omega (arith, c.place);
    inside = omega (arith, c.inside);
    same =
        ap (λ (l : Logged). piece l bs)
        (running ∙ ap (λ (w : Log). record { log = w; bytes = s.bytes })
        (passed v s.step.reader s.bytes run s.step.event q))
        ∙ c.same ∙ sym (ap (λ (f : Read). piece (on v f) (drop c.k bs)) f);
    all = λ m. ap suc (c.all (sym (ap (λ (f : Read). more f.fed.event) f) ∙ m));
    some = λ m. omega arith;
  }
    where
      f : feed j i r buf (b ∷ bs) ≡ feed j (i + 1) s.step.reader s.bytes bs
      f = rw q

cut : (xs : List ℕ) (i : ℕ) (r : Reader) (v : Replay) (buf : List ℕ) → is_ended v.stage ≡ false → Cut xs i r v buf
unfolding feed piece met
cut [] i r v buf run = record {
  k = 0;
  place = omega arith;
  inside = omega arith;
  same = refl;
  all = λ m. refl;
  some = λ m. absurd (false≢true (sym m));
}
cut (b ∷ bs) i r v buf run = go (cut bs (i + 1) (step r buf b).step.reader v (step r buf b).bytes run)
    (halts (step r buf b).step.event (joins v.stage) (step r buf b).step.reader.over) refl
  where
    go : Cut bs (i + 1) (step r buf b).step.reader v (step r buf b).bytes → (h : Bool)
        → halts (step r buf b).step.event (joins v.stage) (step r buf b).step.reader.over ≡ h
        → Cut (b ∷ bs) i r v buf
    go c true q = stopped v run b bs i r buf q
    go c false q = onto v run b bs i r buf q c

-- One pass of the loop, from place i on. Reading the rest byte by byte then gives the log after all bytes from i on.
record Onward (xs : List ℕ) (i : ℕ) (w : Log) (buf : List ℕ) (s : Spanned) : Type 0 where
  within : s.span.at ≤ length xs
  same : piece (record { log = s.span.log; bytes = s.bytes }) (drop s.span.at xs)
      ≡ piece (record { log = w; bytes = buf }) (drop i xs)
  all : s.span.done ≡ true → record { log = s.span.log; bytes = s.bytes }
      ≡ piece (record { log = w; bytes = buf }) (drop i xs)
  some : s.span.done ≡ false → length xs - s.span.at < length xs - i

module _ (xs : List ℕ) (i : ℕ) (w : Log) (buf : List ℕ) (room : i ≤ length xs) where
  ended : is_ended w.replay.stage ≡ true
      → Onward xs i w buf (record { span = record { log = w; at = i; done = true }; bytes = buf })
  ended e = record {
    within = room;
    same = refl;
    all = λ d. sym (still w.reader w.replay buf e (drop i xs));
    some = λ d. absurd (false≢true (sym d));
  }

  module _ (run : is_ended w.replay.stage ≡ false) where
    abbrev c : Cut (drop i xs) i w.reader w.replay buf
    c = cut (drop i xs) i w.reader w.replay buf run

    abbrev f : Read
    f = feed (joins w.replay.stage) i w.reader buf (drop i xs)

    onto-end : piece (on w.replay f) (drop f.fed.at xs) ≡ piece (record { log = w; bytes = buf }) (drop i xs)
    onto-end =
        ap (λ (l : List ℕ). piece (on w.replay f) l)
        (ap (λ (j : ℕ). drop j xs) c.place ∙ sym (drop-drop c.k i xs))
        ∙ sym c.same

    running-on : Onward xs i w buf (reached w.replay f)
    unfolding piece
    running-on = record {
      within = omega (arith, c.place, c.inside, length-drop i xs);
      same = onto-end;
      all = λ d. rw (drop_of_length-le xs {i = f.fed.at} (omega (arith, c.place, length-drop i xs, c.all d))) at
          onto-end;
      some = λ d. omega (arith, c.place, c.inside, length-drop i xs, c.some d);
    }

  onward : Onward xs i w buf (stretch w buf i (drop i xs))
  unfolding stretch
  onward = by-test (Onward xs i w buf) (is_ended w.replay.stage) ended running-on

-- The same with the facts that the loop of feed has.
module _ (xs buf₀ buf buf' : List ℕ) (w₀ w : Log) (i : ℕ) (s : Span)
    (q : piece (record { log = w; bytes = buf }) (drop i xs) ≡ piece (record { log = w₀; bytes = buf₀ }) xs)
    (room : i ≤ length xs) (e : record { span = s; bytes = buf' } ≡ stretch w buf i (drop i xs)) where
  o : Onward xs i w buf (record { span = s; bytes = buf' })
  o = rw e (onward xs i w buf room)

  pub within : s.at ≤ length xs
  within = o.within

  pub further : piece (record { log = s.log; bytes = buf' }) (drop s.at xs)
      ≡ piece (record { log = w₀; bytes = buf₀ }) xs
  further = o.same ∙ q

  pub less : s.done ≡ false → length xs - s.at < length xs - i
  less h = o.some h

  pub to_end : s.done ≡ true → record { log = s.log; bytes = buf' } ≡ piece (record { log = w₀; bytes = buf₀ }) xs
  to_end h = o.all h ∙ q
