-- A host that keeps the unread rest of each record and puts it before the bytes that it hears next.
use Rattle.std.specs.Prelude.{ℕ, List, [], ◌∷◌, ◌++◌, drop}
use Rattle.paper.specs.Client.{Client, Told, Asked, request, record'}

-- The image and the buffer lent, and the bytes heard after the request.
pub record Round : Type 0 where
  pub image : List ℕ
  pub buffer : List ℕ
  pub heard : List ℕ

-- The answer to a record, handed in after asking for the round's request.
abbrev pub handed : Client → Round → List ℕ → Told
handed c r bytes = record' (request c r.image r.buffer).client r.image bytes

-- The answers in each round. The rest kept from the last record comes before the bytes heard.
unfoldable pub host_run : Client → List ℕ → List Round → List (Asked × Told)
host_run c kept [] = []
host_run c kept (r ∷ rs) =
    (request c r.image r.buffer, handed c r (kept ++ r.heard))
    ∷ host_run (handed c r (kept ++ r.heard)).client (drop (handed c r (kept ++ r.heard)).rest (kept ++ r.heard)) rs
