-- The code's client driven by a host over any events: its last answer, the requests handed out, and how it agrees with
-- document 01's conversation.
use Rattle.std.specs.Prelude.{ℕ, ◌≤◌, true, cond, List, [], ◌∷◌, ◌++◌, ◌≡◌, length, drop}
use Rattle.std.proofs.Math.Option.{Option, none, some}
use Rattle.paper.specs.Client as Paper
use Rattle.paper.specs.Client.{start_with, seed_after, bytes_of, handing}
use Rattle.paper.specs.Hearing.{Id}
use Rattle.paper.specs.Talk.{Ask, Talk, Outcome}
use Rattle.theory.specs.ClientDriven as ClientDriven
use Rattle.theory.specs.ClientDriven.{Round, events, Sent, OfLength, size_of, seed_at, id_at, Brought, nothing_yet, brought}
use Rattle.theory.specs.ClientDriven.{said_at}
use Rattle.theory.specs.FlashOrder.{Past, Event, heard, failed, Stand, returned, refused, lost, pending, play}
use Rattle.client.specs.declared.Client.{Client}
use Rattle.client.specs.declared.Started.{Started}
use Rattle.client.specs.declared.Told.{Told}
use Rattle.client.specs.Numbers.{says_of}
use Rattle.client_request.specs.Request.{Asking, request}
use Rattle.client_record.specs.Record.{record', link_failed}
use Rattle.refinement.specs.Calls.{attached_to}
use Rattle.refinement.specs.ClientServed.{on_says, is_onward, opening, resting}

-- "hands back the bytes heard, or says that the link failed": the call for an event.
unfoldable pub tells : Client → Event → Told
tells c (heard image bytes) = record' c image bytes
tells c failed = link_failed c

-- The calls of a round: asking for the request, then telling the event.
abbrev pub asking : List ℕ → Round → Told → Asking
asking buffer r t = request t.client r.lent buffer

abbrev pub telling : List ℕ → Round → Told → Told
telling buffer r t = tells (asking buffer r t).answer.client r.event

-- The last answer, from the start's answer, while the operation goes on and requests are granted. A request that is
-- refused, or that ends the operation, is the last call.
unfoldable pub driven : List ℕ → List Round → Told → Told
driven buffer [] t = t
driven buffer (r ∷ rs) t =
    cond (is_onward t.says)
    (on_says (asking buffer r t).answer.says (λ k. driven buffer rs (telling buffer r t))
    (λ k. opening (asking buffer r t).answer)
    (opening (asking buffer r t).answer) (opening (asking buffer r t).answer))
    t

-- The requests that `driven` hands out, the first one first.
unfoldable pub sends : List ℕ → List Round → Told → List Sent
sends buffer [] t = []
sends buffer (r ∷ rs) t =
    cond (is_onward t.says)
    (on_says (asking buffer r t).answer.says
    (λ k. ClientDriven.sending k (asking buffer r t).bytes (some r.event) ∷ sends buffer rs (telling buffer r t))
    (λ k. ClientDriven.sending k (asking buffer r t).bytes none ∷ []) [] [])
    []

-- The code's answer, read as document 01's.
abbrev pub answer_of : Told → Paper.Says
answer_of t = says_of t.says t.progress t.id t.found

-- The request is handed out: its bytes come first in the buffer, and the bytes after them are unchanged.
pub record Grants (c : Client) (image buffer : List ℕ) (q : Ask) (bytes : List ℕ) : Type 0 where
  pub says : answer_of (opening (request c image buffer).answer) ≡ handing q (length bytes)
  pub after : (request c image buffer).bytes ≡ bytes ++ drop (length bytes) buffer

-- A client with this seed, this attached id or none, and this request next.
pub record Asks (n : Option ℕ) (seed : ℕ) (id : Option Id) (q : Ask) (c : Client) : Type 0 where
  pub seeded : c.front.seed ≡ seed
  pub attached : attached_to c ≡ id
  pub grants : (image buffer : List ℕ) → OfLength n image → size_of q ≤ length buffer
      → Grants c image buffer q (bytes_of q (seed_after q seed) image)

abbrev pub Leaves : Option ℕ → ℕ → Option Id → Stand Outcome → Client → Type 0
Leaves n seed id (returned o) c = c ≡ resting seed id
Leaves n seed id (refused k carries) c = c ≡ resting seed id
Leaves n seed id (lost q) c = c ≡ resting seed id
Leaves n seed id (pending q) c = Asks n seed id q c

-- The answer and the client are those that the conversation leads to. The client began with this seed and this attached
-- id or none; n is the length of the images lent.
pub record StandsAs (n : Option ℕ) (seed : ℕ) (id : Option Id) (r : Past × Stand Outcome) (b : Brought)
    (t : Told) : Type 0 where
  pub says : answer_of t ≡ said_at r b
  pub rest : t.rest ≡ b.rest
  pub client : Leaves n (seed_at seed r) (id_at id r) r.1 t.client

-- An operation was started with this answer, on a client with none running. Driven over these rounds it stands where
-- document 01's conversation does, and hands out the requests that document 01's client does.
pub record Plays (n : Option ℕ) (seed : ℕ) (id : Option Id) (m : Talk Outcome) (buffer : List ℕ) (rounds : List Round)
    (s : Started) : Type 0 where
  pub stands : StandsAs n seed id (play m (events rounds) []) (brought m (events rounds) nothing_yet)
      (driven buffer rounds (opening s))
  pub sent : sends buffer rounds (opening s)
      ≡ ClientDriven.sends buffer rounds (start_with n (ClientDriven.resting seed id) true m)
