-- The content of the program's output buffer.
use Rattle.std.specs.Prelude.{ℕ, List, ◌≡◌}
use Rattle.paper.specs.Log.{output}
use Rattle.log_listing.specs.Listing.{placed}
use Rattle.log_feed.specs.Pieces.{concat}

-- Some pieces were read, and document 01's output for them, joined, is at the front of the buffer.
pub record Reports (before : List ℕ) (n : ℕ) (after : List ℕ) : Type 0 where
  pub fed : List (List ℕ)
  pub same : record { len = n; bytes = after } ≡ placed (output (concat fed)) before
