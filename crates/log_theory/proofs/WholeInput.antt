-- The log read in any pieces is a function of the whole input: line one, then the client over the records.
use Prim.Native.Nat.{ℕ}
use mathlib.Core.List.{List, [], ◌∷◌, ◌++◌}
use mathlib.Core.Path.{◌≡◌, refl, sym, ◌∙◌, ap}
use native.Mathlib.Omega.{arith}
use lib.ListN.{length}
use Rattle.paper.specs.Log.{lines}
use Rattle.log_lines.specs.declared.Place.TheVariants.{Start}
use Rattle.log_run.specs.declared.Replay.{Replay}
use Rattle.log_run.specs.Run as Run
use Rattle.log_run.specs.Run.{answer}
use Rattle.log_listing.specs.Listing.{text}
use Rattle.log_feed.specs.FeedMachine.{Logged, byte, piece, begun, last_line}
use Rattle.log_feed.specs.Pieces.{pieces, concat}
use Rattle.log_theory.specs.WholeTalk.{opened_by, run_of}
use Rattle.log_theory.proofs.ReadToEnd.{ran}
use Rattle.log_theory.proofs.LineOne.{judged, opening, from_start}

joins : (s : Logged) (xs ys : List ℕ) → piece s (xs ++ ys) ≡ piece (piece s xs) ys
unfolding piece
joins s [] ys = refl
joins s (x ∷ xs) ys = joins (byte s x) xs ys

pub any-pieces : (s : Logged) (ps : List (List ℕ)) → pieces s ps ≡ piece s (concat ps)
unfolding pieces concat piece
any-pieces s [] = refl
any-pieces s (x ∷ xs) = any-pieces (piece s x) xs ∙ sym (joins s x (concat xs))

opening-is : (ls : List (List ℕ)) → opening 4096 Run.begun Start [] ls ≡ opened_by ls
unfolding opening opened_by judged
opening-is [] = refl
opening-is (l ∷ ls) = refl

-- The run after the pieces of an input and its end.
pub whole : (ps : List (List ℕ)) (buf : List ℕ) → length buf ≡ 4096
    → (last_line (pieces (record { log = begun; bytes = buf }) ps)).log.replay ≡ run_of (concat ps)
unfolding ran run_of begun Run.begun
whole ps buf h =
    ap (λ (s : Logged). (last_line s).log.replay) (any-pieces (record { log = begun; bytes = buf }) ps)
    ∙ from_start Run.begun refl (concat ps) buf (omega arith)
    ∙ ap (λ (cap : ℕ). opening cap Run.begun Start [] (lines (concat ps))) h
    ∙ opening-is (lines (concat ps))

-- What is written for it.
pub whole-text : (ps : List (List ℕ)) (buf : List ℕ) → length buf ≡ 4096
    → text (answer (last_line (pieces (record { log = begun; bytes = buf }) ps)).log.replay)
    ≡ text (answer (run_of (concat ps)))
whole-text ps buf h = ap (λ (v : Replay). text (answer v)) (whole ps buf h)
