-- A log after some pieces: what a program that reads knows of it at the start, and after one more piece.
use mathlib.Core.List.{List, [], ◌∷◌, ◌++◌}
use mathlib.Core.Path.{◌≡◌, refl, sym, ◌∙◌, ap}
use Prim.Native.Nat.{ℕ}
use Rattle.log_feed.specs.declared.events.Log.{Log}
use Rattle.log_feed.specs.FeedMachine.{Logged, piece, begun}
use Rattle.log_feed.specs.Pieces.{Reached, pieces}

pub at-begin : (w : Log) (buf : List ℕ) → w ≡ begun
    → Reached (record { log = begun; bytes = buf }) (record { log = w; bytes = buf })
unfolding pieces
at-begin w buf e = record { fed = []; same = ap (λ (w : Log). record { log = w; bytes = buf }) e }

pieces-on : (s : Logged) (xs ys : List (List ℕ)) → pieces s (xs ++ ys) ≡ pieces (pieces s xs) ys
unfolding pieces
pieces-on s [] ys = refl
pieces-on s (x ∷ xs) ys = pieces-on (piece s x) xs ys

pub one_more : (s : Logged) (w v : Log) (buf buf' x : List ℕ) → Reached s (record { log = w; bytes = buf })
    → record { log = v; bytes = buf' } ≡ piece (record { log = w; bytes = buf }) x
    → Reached s (record { log = v; bytes = buf' })
unfolding pieces
one_more s w v buf buf' x p e = record {
  fed = p.fed ++ (x ∷ []);
  same = e ∙ ap (λ (t : Logged). piece t x) p.same ∙ sym (pieces-on s p.fed (x ∷ []));
}
