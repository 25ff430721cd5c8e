-- Document 01, "The bench log program": the program writes document 01's output for its input, however the input is cut
-- into pieces.
use Prim.Native.Nat.{ℕ}
use mathlib.Core.List.{List}
use mathlib.Core.Path.{◌≡◌}
use lib.ListN.{length}
use Rattle.paper.specs.Log.{output}
use Rattle.log_listing.specs.Listing.{text}
use Rattle.log_run.specs.Run.{answer}
use Rattle.log_feed.specs.FeedMachine.{begun, last_line}
use Rattle.log_feed.specs.Pieces.{pieces, concat}
use Rattle.log_theory.proofs.Output as Output

-- `ps` are the pieces in which the input is read; `buf` is the log's record buffer, of any content.
pub writes : (ps : List (List ℕ)) (buf : List ℕ) → length buf ≡ 4096
    → text (answer (last_line (pieces (record { log = begun; bytes = buf }) ps)).log.replay) ≡ output (concat ps)
writes = Output.log-output
