-- How one byte changes a log that has not ended, for each kind of character.
use Prim.Native.Nat.{ℕ, ◌+◌, ◌*◌, ◌%◌, ◌<◌, ◌≤◌}
use mathlib.Core.Bool.{Bool, true, false}
use mathlib.Core.List.{List}
use mathlib.Core.Path.{◌≡◌}
use lib.ListN.{length, set}
use lib.Dec.{ltb, eqb}
use borrow.Author.Tests.{lt-ltb, le-ltb}
use Rattle.paper.specs.Text.{digit}
use Rattle.log_lines.specs.declared.Place.{Place}
use Rattle.log_lines.specs.declared.Place.TheVariants.{Start, Even, Odd}
use Rattle.log_lines.specs.declared.Turn.TheVariants as Turn
use Rattle.log_lines.specs.declared.Turn.TheVariants.{Half, Whole}
use Rattle.log_lines.specs.declared.Reader.{Reader}
use Rattle.log_lines.specs.Reading.{turn, step, keep}
use Rattle.log_run.specs.declared.Replay.{Replay}
use Rattle.log_run.specs.Run.{is_ended, stops}
use Rattle.log_feed.specs.declared.events.Log.{Log}
use Rattle.log_feed.specs.Events.{met, lined, emptied, log_of, idle}
use Rattle.log_feed.specs.FeedMachine.{Logged, byte}

abbrev pub reader : Place → ℕ → Bool → Reader
reader p n o = record { place = p; len = n; over = o }

abbrev pub at : Reader → Replay → List ℕ → Logged
at r v buf = record { log = log_of r v; bytes = buf }

abbrev pub with' : Log → List ℕ → Logged
with' w buf = record { log = w; bytes = buf }

module _ (v : Replay) (run : is_ended v.stage ≡ false) (p : Place) (n : ℕ) (o : Bool) (buf : List ℕ) (b : ℕ) where
  pub half : (h : ℕ) → turn p b ≡ Half h → byte (at (reader p n o) v buf) b ≡ at (reader (Odd h) n o) v buf
  unfolding byte step met
  half h e = rw (run, e)

  pub fits : (x : ℕ) → turn p b ≡ Whole x → n < length buf
      → byte (at (reader p n o) v buf) b ≡ at (reader Even (n + 1) o) v (set buf n x)
  unfolding byte step met keep
  fits x e h = rw (run, e, lt-ltb n (length buf) h)

  pub over : (x : ℕ) → turn p b ≡ Whole x → length buf ≤ n
      → byte (at (reader p n o) v buf) b ≡ at (reader Even n true) v buf
  unfolding byte step met keep
  over x e h = rw (run, e, le-ltb n (length buf) h)

  pub line : turn p b ≡ Turn.Line → byte (at (reader p n o) v buf) b ≡ with' (lined v (reader Start n o) buf) buf
  unfolding byte step met
  line e = rw (run, e)

  pub empty : turn p b ≡ Turn.Empty → byte (at (reader p n o) v buf) b ≡ with' (emptied v (reader Start n o) buf) buf
  unfolding byte step met
  empty e = rw (run, e)

  pub refused : turn p b ≡ Turn.Bad → byte (at (reader p n o) v buf) b ≡ at idle (stops v 22) buf
  unfolding byte step met
  refused e = rw (run, e)

module _ (b : ℕ) (lf : eqb b 10 ≡ true) where
  pub lf-start : turn Start b ≡ Turn.Empty
  unfolding turn
  lf-start = rw lf

  pub lf-even : turn Even b ≡ Turn.Line
  unfolding turn
  lf-even = rw lf

  pub lf-odd : (h : ℕ) → turn (Odd h) b ≡ Turn.Bad
  unfolding turn
  lf-odd h = rw lf

module _ (b : ℕ) (other : eqb b 10 ≡ false) where
  pub digit-start : ltb (digit b) 16 ≡ true → turn Start b ≡ Half (digit b)
  unfolding turn
  digit-start d = rw (other, d)

  pub digit-even : ltb (digit b) 16 ≡ true → turn Even b ≡ Half (digit b)
  unfolding turn
  digit-even d = rw (other, d)

  pub digit-odd : (h : ℕ) → ltb (digit b) 16 ≡ true → turn (Odd h) b ≡ Whole (h % 16 * 16 + digit b)
  unfolding turn
  digit-odd h d = rw (other, d)

  pub no_digit : (p : Place) → ltb (digit b) 16 ≡ false → turn p b ≡ Turn.Bad
  unfolding turn
  no_digit p d = rw (other, d)
