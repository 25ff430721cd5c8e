-- A record read byte by byte is document 01's record, and a run goes on as the client does over the records still to
-- come.
use Prim.Native.Nat.{ℕ, ◌+◌, ◌*◌, ◌%◌, ◌<◌, ◌≤◌}
use mathlib.Core.Bool.{Bool, true, false, false≢true}
use mathlib.Core.List.{List, [], ◌∷◌, ◌++◌}
use mathlib.Core.Path.{◌≡◌, refl, sym, ◌∙◌, ap}
use native.Mathlib.Omega.{arith}
use native.Mathlib.Numerals.{add-one}
use lib.ListN.{length, take, set, length-set}
use lib.Seq.{length-take-le, take-suc-set}
use lib.Dec.{ltb, eqb}
use borrow.Author.Tests.{ltb-true, ltb-false}
use Rattle.paper.specs.Text.{digit}
use Rattle.paper.specs.Log.{Records, spoilt, next, joined, lines, longer}
use Rattle.log_lines.specs.declared.Place.{Place}
use Rattle.log_lines.specs.declared.Place.TheVariants.{Start, Even, Odd}
use Rattle.log_lines.specs.declared.Turn.TheVariants as Turn
use Rattle.log_lines.specs.Reading.{turn}
use Rattle.log_run.specs.declared.Stage.{Stage}
use Rattle.log_run.specs.declared.Stage.TheVariants.{First, Running, Ended}
use Rattle.log_run.specs.declared.Replay.{Replay}
use Rattle.client_record.specs.Record.{record'}
use Rattle.log_run.specs.Run.{is_ended, stops, takes}
use Rattle.log_feed.specs.declared.events.Log.{Log}
use Rattle.log_feed.specs.Events.{lined, emptied, log_of, idle}
use Rattle.log_theory.specs.WholeTalk.{talk}
use Rattle.log_theory.proofs.LinesLeft.{from, from_even, from_odd}
use Rattle.log_theory.proofs.LinesLeft as Rest
use Rattle.log_theory.proofs.ByteSteps.{reader, at, with'}
use Rattle.log_theory.proofs.ByteSteps as ByteSteps
use Rattle.log_theory.proofs.ReadToEnd.{ran, ran-byte, ran-ended, talk-ended, end-start, end-even, end-odd}
use Rattle.log_theory.proofs.ReadToEnd.{settled, goes-settled, spoils}

pub lines-lf : (b : ℕ) (bs : List ℕ) → eqb b 10 ≡ true → lines (b ∷ bs) ≡ [] ∷ lines bs
unfolding lines
lines-lf b bs e = rw e

pub lines_other : (b : ℕ) (bs : List ℕ) → eqb b 10 ≡ false → lines (b ∷ bs) ≡ longer b (lines bs)
unfolding lines
lines_other b bs e = rw e

-- Storing one more byte in the buffer.
pub stored : (buf : List ℕ) (n x : ℕ) → n < length buf → take (n + 1) (set buf n x) ≡ take n buf ++ (x ∷ [])
stored buf n x h = rw (add-one n) (take-suc-set buf n x h)

-- The run from here on, while a Select is out: the client over the records still to come.
abbrev pub left : Place → ℕ → Replay → List ℕ → List ℕ → Replay
left p n v buf xs = talk v (from (length buf) p (take n buf) (lines xs))

-- Reading xs byte by byte gives that run.
abbrev pub Right : List ℕ → Type 0
Right xs = (p : Place) (n : ℕ) (v : Replay) (buf : List ℕ) → v.stage ≡ Running → n ≤ length buf
    → ran (at (reader p n false) v buf) xs ≡ left p n v buf xs

going : (v : Replay) → v.stage ≡ Running → is_ended v.stage ≡ false
going v e = rw e

-- A run after line one or after a record.
pub resumed : (xs : List ℕ) → Right xs → (v : Replay) (buf : List ℕ) → settled v.stage ≡ true
    → ran (at idle v buf) xs ≡ talk v (joined (length buf) [] (lines xs))
unfolding from settled
resumed xs ih v buf s = go v.stage refl s
  where
    go : (t : Stage) → v.stage ≡ t → settled t ≡ true
        → ran (at idle v buf) xs ≡ talk v (joined (length buf) [] (lines xs))
    go First e s = absurd (false≢true s)
    go Running e s = ih Start 0 v buf e (omega arith)
    go (Ended k) e s = ran-ended v buf xs (rw e) ∙ sym (talk-ended (joined (length buf) [] (lines xs)) v (rw e))

module _ (b : ℕ) (bs : List ℕ) (ih : Right bs) (n : ℕ) (v : Replay) (buf : List ℕ) (run : v.stage ≡ Running)
    (room : n ≤ length buf) where
  abbrev cap : ℕ
  cap = length buf

  abbrev acc : List ℕ
  acc = take n buf

  long : length acc ≡ n
  long = length-take-le n buf room

  -- Document 01's side, by the lines not yet read.
  paper : (p : Place) (ls : List (List ℕ)) (rs : Records) → lines (b ∷ bs) ≡ ls → from cap p acc ls ≡ rs
      → talk v rs ≡ left p n v buf (b ∷ bs)
  paper p ls rs e q = sym (ap (talk v) (ap (from cap p acc) e ∙ q))

  spoilt-is : stops v 22 ≡ talk v spoilt
  unfolding talk
  spoilt-is = rw run

  both-refuse : (p : Place) (ls : List (List ℕ)) → turn p b ≡ Turn.Bad → lines (b ∷ bs) ≡ ls
      → from cap p acc ls ≡ spoilt → ran (at (reader p n false) v buf) (b ∷ bs) ≡ left p n v buf (b ∷ bs)
  both-refuse p ls e el q =
      ran-byte _ _ b bs (ByteSteps.refused v (going v run) p n false buf b e)
      ∙ ran-ended (stops v 22) buf bs refl ∙ spoilt-is ∙ paper p ls spoilt el q

  emptied-is : emptied v (reader Start n false) buf ≡ log_of idle (takes v acc)
  unfolding emptied
  emptied-is = rw run

  takes-settled : settled (takes v acc).stage ≡ true
  unfolding takes
  takes-settled = goes-settled (record' v.client [] acc).says (record' v.client [] acc).client v.selects
      (record' v.client [] acc).found

  taken_is : talk (takes v acc) (joined cap [] (lines bs)) ≡ talk v (next acc (joined cap [] (lines bs)))
  unfolding talk
  taken_is = rw run

  lined-is : lined v (reader Start n false) buf ≡ log_of (reader Start n false) v
  unfolding lined
  lined-is = rw run

  one-lf : (p : Place) → eqb b 10 ≡ true → ran (at (reader p n false) v buf) (b ∷ bs) ≡ left p n v buf (b ∷ bs)
  unfolding from joined
  one-lf Start lf =
      ran-byte _ (at idle (takes v acc) buf) b bs
      (ByteSteps.empty v (going v run) Start n false buf b (ByteSteps.lf-start b lf)
      ∙ ap (λ (w : Log). with' w buf) emptied-is)
      ∙ resumed bs ih (takes v acc) buf takes-settled
      ∙ taken_is
      ∙ paper Start ([] ∷ lines bs) (next acc (joined cap [] (lines bs))) (lines-lf b bs lf) refl
  one-lf Even lf =
      ran-byte _ (at (reader Start n false) v buf) b bs
      (ByteSteps.line v (going v run) Even n false buf b (ByteSteps.lf-even b lf)
      ∙ ap (λ (w : Log). with' w buf) lined-is)
      ∙ ih Start n v buf run room
      ∙ paper Even ([] ∷ lines bs) (from cap Start acc (lines bs)) (lines-lf b bs lf)
      (Rest.lf-even cap acc (omega (arith, long)) (lines bs))
  one-lf (Odd h) lf = both-refuse (Odd h) ([] ∷ lines bs) (ByteSteps.lf-odd b lf h) (lines-lf b bs lf)
      (Rest.lf-odd cap h acc (lines bs))

  module _ (other : eqb b 10 ≡ false) where
    kept : (x : ℕ) → n < length buf
        → left Even (n + 1) v (set buf n x) bs ≡ talk v (from cap Even (acc ++ (x ∷ [])) (lines bs))
    kept x h =
        ap (λ (c : ℕ). talk v (from c Even (take (n + 1) (set buf n x)) (lines bs))) (length-set buf n x)
        ∙ ap (λ (l : List ℕ). talk v (from cap Even l (lines bs))) (stored buf n x h)

    digit-odd : (h : ℕ) → ltb (digit b) 16 ≡ true → (f : Bool) → ltb n (length buf) ≡ f
        → ran (at (reader (Odd h) n false) v buf) (b ∷ bs) ≡ left (Odd h) n v buf (b ∷ bs)
    digit-odd h d true ef =
        let k : n < length buf = ltb-true n (length buf) ef in
        let x = h % 16 * 16 + digit b in
        ran-byte _ _ b bs (ByteSteps.fits v (going v run) (Odd h) n false buf b x (ByteSteps.digit-odd b other h d) k)
        ∙ ih Even (n + 1) v (set buf n x) run (omega (arith, length-set buf n x))
        ∙ kept x k
        ∙ paper (Odd h) (longer b (lines bs)) (from cap Even (acc ++ (x ∷ [])) (lines bs)) (lines_other b bs other)
        (Rest.whole b d cap h acc (omega (arith, long)) (lines bs))
    digit-odd h d false ef =
        let k : length buf ≤ n = ltb-false n (length buf) ef in
        let x = h % 16 * 16 + digit b in
        ran-byte _ _ b bs (ByteSteps.over v (going v run) (Odd h) n false buf b x (ByteSteps.digit-odd b other h d) k)
        ∙ spoils v run bs Even n buf refl
        ∙ spoilt-is
        ∙ paper (Odd h) (longer b (lines bs)) spoilt (lines_other b bs other)
        (Rest.over b d cap h acc (omega (arith, long)) (lines bs))

    one-other : (p : Place) (d : Bool) → ltb (digit b) 16 ≡ d
        → ran (at (reader p n false) v buf) (b ∷ bs) ≡ left p n v buf (b ∷ bs)
    one-other p false d = both-refuse p (longer b (lines bs)) (ByteSteps.no_digit b other p d) (lines_other b bs other)
        (Rest.refused b d cap p acc (lines bs))
    one-other Start true d =
        ran-byte _ _ b bs (ByteSteps.half v (going v run) Start n false buf b (digit b)
        (ByteSteps.digit-start b other d))
        ∙ ih (Odd (digit b)) n v buf run room
        ∙ paper Start (longer b (lines bs)) (from cap (Odd (digit b)) acc (lines bs)) (lines_other b bs other)
        (Rest.half-start b d cap acc (lines bs))
    one-other Even true d =
        ran-byte _ _ b bs (ByteSteps.half v (going v run) Even n false buf b (digit b) (ByteSteps.digit-even b other d))
        ∙ ih (Odd (digit b)) n v buf run room
        ∙ paper Even (longer b (lines bs)) (from cap (Odd (digit b)) acc (lines bs)) (lines_other b bs other)
        (Rest.half-even b d cap acc (lines bs))
    one-other (Odd h) true d = digit-odd h d (ltb n (length buf)) refl

  one : (p : Place) (e : Bool) → eqb b 10 ≡ e → ran (at (reader p n false) v buf) (b ∷ bs) ≡ left p n v buf (b ∷ bs)
  one p true lf = one-lf p lf
  one p false other = one-other other p (ltb (digit b) 16) refl

at-end : (p : Place) (n : ℕ) (v : Replay) (buf : List ℕ) → v.stage ≡ Running
    → ran (at (reader p n false) v buf) [] ≡ left p n v buf []
unfolding talk from from_even from_odd lines joined lined
at-end Start n v buf run = end-start v n false buf
at-end Even n v buf run = end-even v (going v run) n false buf ∙ rw run
at-end (Odd h) n v buf run = end-odd v (going v run) n false buf h ∙ rw run

pub rest : (xs : List ℕ) → Right xs
rest [] p n v buf run room = at-end p n v buf run
rest (b ∷ bs) p n v buf run room = one b bs (rest bs) n v buf run room p (eqb b 10) refl
