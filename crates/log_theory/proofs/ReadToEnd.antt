-- A log read to the end of its input: one that has ended stays as it is, and one with a record too long ends with 22.
use Prim.Native.Nat.{ℕ, ◌+◌}
use mathlib.Core.Bool.{Bool, true, false, false≢true}
use mathlib.Core.List.{List, [], ◌∷◌}
use mathlib.Core.Path.{◌≡◌, refl, ◌∙◌, ap}
use lib.ListN.{length, set}
use lib.Dec.{ltb}
use borrow.Author.Tests.{ltb-true, ltb-false}
use Rattle.paper.specs.Log.{Records, missing, spoilt, next}
use Rattle.log_lines.specs.declared.Place.{Place}
use Rattle.log_lines.specs.declared.Place.TheVariants.{Start, Even, Odd}
use Rattle.log_lines.specs.declared.Turn.{Turn}
use Rattle.log_lines.specs.declared.Turn.TheVariants.{Half, Whole}
use Rattle.log_lines.specs.Reading.{turn}
use Rattle.client.specs.declared.Says.{Says}
use Rattle.client.specs.declared.Says.TheVariants.{Granted, Closing, Onward, Over, Refused}
use Rattle.client.specs.declared.Started.{Started}
use Rattle.client.specs.declared.Client.{Client}
use Rattle.walk_table.specs.declared.Table.{Table}
use Rattle.log_run.specs.declared.Stage.{Stage}
use Rattle.log_run.specs.declared.Stage.TheVariants.{First, Running, Ended}
use Rattle.log_run.specs.declared.Replay.{Replay}
use Rattle.client_request.specs.Request.{request}
use Rattle.log_run.specs.Run.{is_ended, stops, handed, room, goes}
use Rattle.log_feed.specs.declared.events.Log.{Log}
use Rattle.log_feed.specs.Events.{lined, emptied, idle}
use Rattle.log_feed.specs.FeedMachine.{Logged, byte, piece, inside, last_line}
use Rattle.log_feed.proofs.Cut.{still}
use Rattle.log_theory.specs.WholeTalk.{talk}
use Rattle.log_theory.proofs.ByteSteps.{reader, at}
use Rattle.log_theory.proofs.ByteSteps as ByteSteps

-- The run after xs and the end of the input.
unfoldable pub ran : Logged → List ℕ → Replay
ran s xs = (last_line (piece s xs)).log.replay

pub ran-byte : (s s' : Logged) (b : ℕ) (bs : List ℕ) → byte s b ≡ s' → ran s (b ∷ bs) ≡ ran s' bs
unfolding ran piece
ran-byte s s' b bs e = ap (λ (s : Logged). (last_line (piece s bs)).log.replay) e

pub ran-ended : (v : Replay) (buf xs : List ℕ) → is_ended v.stage ≡ true → ran (at idle v buf) xs ≡ v
unfolding ran last_line
ran-ended v buf xs e = ap (λ (s : Logged). (last_line s).log.replay) (still idle v buf e xs)

-- Records after the end are ignored.
pub talk-ended : (rs : Records) (v : Replay) → is_ended v.stage ≡ true → talk v rs ≡ v
unfolding talk
talk-ended missing v e = refl
talk-ended spoilt v e = rw e
talk-ended (next bytes rs) v e = rw e (talk-ended rs v e)

-- The end of the input ends a last line that has no LF.
module _ (v : Replay) (run : is_ended v.stage ≡ false) (n : ℕ) (o : Bool) (buf : List ℕ) where
  pub end-even : ran (at (reader Even n o) v buf) [] ≡ (lined v (reader Start n o) buf).replay
  unfolding ran last_line piece
  end-even = ap (λ (s : Logged). s.log.replay) (ByteSteps.line v run Even n o buf 10 (ByteSteps.lf-even 10 refl))

  pub end-odd : (h : ℕ) → ran (at (reader (Odd h) n o) v buf) [] ≡ stops v 22
  unfolding ran last_line piece
  end-odd h = ap (λ (s : Logged). s.log.replay)
      (ByteSteps.refused v run (Odd h) n o buf 10 (ByteSteps.lf-odd 10 refl h))

pub end-start : (v : Replay) (n : ℕ) (o : Bool) (buf : List ℕ) → ran (at (reader Start n o) v buf) [] ≡ v
unfolding ran last_line piece
end-start v n o buf = refl

-- Line one has been handled. This holds after every call of the client.
unfoldable pub settled : Stage → Bool
settled First = false
settled Running = true
settled (Ended k) = true

handed-settled : (s : Started) (k : ℕ) (x : Says) → s.says ≡ x → settled (handed s k).stage ≡ true
unfolding handed settled
handed-settled s k (Granted n) e = rw e
handed-settled s k (Closing n) e = rw e
handed-settled s k Onward e = rw e
handed-settled s k (Over o) e = rw e
handed-settled s k (Refused r) e = rw e

pub goes-settled : (x : Says) (c : Client) (k : ℕ) (t : Table) → settled (goes x c k t).stage ≡ true
unfolding goes settled
goes-settled (Granted n) c k t = refl
goes-settled (Closing n) c k t = refl
goes-settled Onward c k t = handed-settled (request c [] room).answer k (request c [] room).answer.says refl
goes-settled (Over o) c k t = refl
goes-settled (Refused r) c k t = refl

-- A record longer than the buffer ends the run with 22, whatever follows.
module _ (v : Replay) (run : v.stage ≡ Running) where
  going : is_ended v.stage ≡ false
  going = rw run

  over-line : (n : ℕ) (buf : List ℕ) → lined v (reader Start n true) buf ≡ (at idle (stops v 22) buf).log
  unfolding lined
  over-line n buf = rw run

  over-empty : (n : ℕ) (buf : List ℕ) → emptied v (reader Start n true) buf ≡ (at idle (stops v 22) buf).log
  unfolding emptied
  over-empty n buf = rw run

  module _ (b : ℕ) (bs : List ℕ)
      (ih : (p : Place) (n : ℕ) (buf : List ℕ) → inside p ≡ true → ran (at (reader p n true) v buf) bs ≡ stops v 22)
      (p : Place) (n : ℕ) (buf : List ℕ) where
    spoil : (x : Turn) → turn p b ≡ x → (f : Bool) → ltb n (length buf) ≡ f
        → ran (at (reader p n true) v buf) (b ∷ bs) ≡ stops v 22
    spoil (Half h) e f ef = ran-byte _ _ b bs (ByteSteps.half v going p n true buf b h e) ∙ ih (Odd h) n buf refl
    spoil (Whole x) e true ef = ran-byte _ _ b bs
        (ByteSteps.fits v going p n true buf b x e (ltb-true n (length buf) ef))
        ∙ ih Even (n + 1) (set buf n x) refl
    spoil (Whole x) e false ef = ran-byte _ _ b bs
        (ByteSteps.over v going p n true buf b x e (ltb-false n (length buf) ef)) ∙ ih Even n buf refl
    spoil Turn.Line e f ef = ran-byte _ (at idle (stops v 22) buf) b bs
        (ByteSteps.line v going p n true buf b e ∙ ap (λ (w : Log). record { log = w; bytes = buf }) (over-line n buf))
        ∙ ran-ended (stops v 22) buf bs refl
    spoil Turn.Empty e f ef = ran-byte _ (at idle (stops v 22) buf) b bs
        (ByteSteps.empty v going p n true buf b e
        ∙ ap (λ (w : Log). record { log = w; bytes = buf }) (over-empty n buf))
        ∙ ran-ended (stops v 22) buf bs refl
    spoil Turn.Bad e f ef = ran-byte _ _ b bs (ByteSteps.refused v going p n true buf b e)
        ∙ ran-ended (stops v 22) buf bs refl

  pub spoils : (xs : List ℕ) (p : Place) (n : ℕ) (buf : List ℕ) → inside p ≡ true
      → ran (at (reader p n true) v buf) xs ≡ stops v 22
  spoils [] Start n buf i = absurd (false≢true i)
  spoils [] Even n buf i = end-even v going n true buf ∙ ap (λ (w : Log). w.replay) (over-line n buf)
  spoils [] (Odd h) n buf i = end-odd v going n true buf h
  spoils (b ∷ bs) p n buf i = spoil b bs (spoils bs) p n buf (turn p b) refl (ltb n (length buf)) refl
