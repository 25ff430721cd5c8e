-- An input that is read in pieces.
use Rattle.std.specs.Prelude.{ℕ, List, [], ◌∷◌, ◌++◌, ◌≡◌}
use Rattle.log_feed.specs.FeedMachine.{Logged, piece}

-- The log after a list of pieces, one by one.
unfoldable pub pieces : Logged → List (List ℕ) → Logged
pieces s [] = s
pieces s (x ∷ xs) = pieces (piece s x) xs

-- The pieces as one input.
unfoldable pub concat : List (List ℕ) → List ℕ
concat [] = []
concat (x ∷ xs) = x ++ concat xs

-- The second log is the first one after some pieces.
pub record Reached (from to : Logged) : Type 0 where
  pub fed : List (List ℕ)
  pub same : to ≡ pieces from fed
