-- Lemmas for the ways through the functions for a request that the check does not find alone, with the facts known there
-- as their premises.
use Rattle.std.proofs.Common.{◌≡◌, ℕ, Bool, true, false, cond, ltb, List, ◌++◌, length, drop, refl, ap, ◌∙◌}
use Rattle.ids.specs.declared.Id.{Id}
use Rattle.ids.specs.Ids.{no_id}
use Rattle.walk_table.specs.declared.Table.{Table}
use Rattle.std.specs.Prelude.{Result, Ok, Err}
use Rattle.wire.specs.declared.Short.{Short}
use Rattle.frame.specs.Writing.{Placing, placed}
use Rattle.paper.specs.Frame.{frame_bytes}
use Rattle.walk.specs.declared.Walk.{Walk}
use Rattle.walk.specs.declared.Place.{Place}
use Rattle.walk.proofs.Ways.{begin-none}
use Rattle.walk.specs.Moves.{place_of, walk_of, no_walk}
use Rattle.client.specs.declared.Phase.{Phase}
use Rattle.client.specs.declared.Phase.TheVariants.{Select, Demand, Leave}
use Rattle.client.specs.declared.Search.{Search}
use Rattle.client.specs.declared.Job.{Job}
use Rattle.client.specs.declared.Reset.{Reset}
use Rattle.client.specs.declared.Turn.TheVariants.{Waiting}
use Rattle.client.specs.declared.Client.{Client}
use Rattle.client.specs.declared.Front.{Front}
use Rattle.client.specs.declared.Opening.{Opening}
use Rattle.client.specs.declared.Refusal.TheVariants.{ShortBuffer}
use Rattle.client.specs.declared.Says.TheVariants.{Granted, Closing}
use Rattle.client.specs.declared.Started.{Started}
use Rattle.client.specs.Clients.{idle, turned}
use Rattle.std.specs.Prelude.{Some, None}
use Rattle.client.specs.Verdicts.{front_of, client_of, started_of}
use Rattle.client_request.specs.Request.{next_seed, seeded, frame_of, handing, handed, granted}
use Rattle.client_request.specs.Request.{Asking, withheld, granting, asked_for, request}

-- The client of a front, with a walk of a place and a list.
abbrev here : Front → Place → Table → Client
here f p t = client_of f (walk_of p t)

-- A request that is handed out.
module _ (f g : Front) (p : Phase) (n : ℕ) where
  pub handed-select : (s : Search) (seed : ℕ) → p ≡ Select s
      → ((w : Walk) → client_of g w ≡ turned (client_of f w) (Waiting p)) → seed ≡ next_seed f.seed → (w : Walk)
      → started_of (record { says = Granted n; front = front_of (seeded (client_of g w) seed); begins = None })
      w ≡ record { says = handing p n; client = handed (client_of f w) p }
  unfolding handing handed
  handed-select s seed ep e es w =
      rw (ep, es) (ap (λ (c : Client). record { says = Granted n; client = seeded c (next_seed f.seed) })
      (rw ep at e w))

  pub handed-demand : (j : Job) → p ≡ Demand j → ((w : Walk) → client_of g w ≡ turned (client_of f w) (Waiting p))
      → (w : Walk)
      → started_of (record { says = Granted n; front = g; begins = None }) w
      ≡ record { says = handing p n; client = handed (client_of f w) p }
  unfolding handing handed
  handed-demand j ep e w = rw ep (ap (λ (c : Client). record { says = Granted n; client = c }) (rw ep at e w))

  pub handed-leave : (x : Id) (reset : Reset) → p ≡ Leave reset → ((w : Walk) → client_of g no_walk ≡ idle (client_of f w))
      → x ≡ no_id → (w : Walk)
      → started_of (record { says = Closing n; front = g; begins = Some x }) w
      ≡ record { says = handing p n; client = handed (client_of f w) p }
  unfolding handing handed
  handed-leave x reset ep e ex w = rw (ep, ex, begin-none, e w)

-- A writer's result, turned into the answer of the call.
placing : (c : Client) (p : Phase) (bytes buffer : List ℕ)
    → record { answer = granted c p (placed bytes buffer).answer; bytes = (placed bytes buffer).bytes }
    ≡ granting c p bytes buffer
unfolding placed granting granted
placing c p bytes buffer = go (ltb (length buffer) (length bytes))
  where
    done : Placing
    done = record { answer = Ok (length bytes); bytes = bytes ++ drop (length bytes) buffer }

    short : Placing
    short = record { answer = Err (record { needed = length bytes }); bytes = buffer }

    go : (b : Bool)
        → ◌≡◌ {A = Asking} (record {
          answer = granted c p (cond b short done).answer;
          bytes = (cond b short done).bytes;
        })
        (cond b (withheld c (ShortBuffer (length bytes)) buffer)
        (record {
          answer = record { says = handing p (length bytes); client = handed c p };
          bytes = bytes ++ drop (length bytes) buffer;
        }))
    go true = refl
    go false = refl

-- The first premise is only there for the search: it names the writer's result.
pub asked-made : (f : Front) (p : Place) (r : Opening) (ph : Phase) (v : Result ℕ Short) (image buffer after : List ℕ)
    → started_of r no_walk ≡ granted (client_of f no_walk) ph v
    → ((t : Table) → record { answer = v; bytes = after } ≡ placed (frame_bytes (frame_of (here f p t) ph image)) buffer)
    → ((w : Walk) → started_of r w ≡ granted (client_of f w) ph v) → (t : Table)
    → record { answer = started_of r (walk_of p t); bytes = after } ≡ asked_for (here f p t) ph image buffer
unfolding asked_for
asked-made f p r ph v image buffer after k ew e t =
    ap (λ (x : Started). record { answer = x; bytes = after }) (e (walk_of p t))
    ∙ ap (λ (x : Placing). record { answer = granted (here f p t) ph x.answer; bytes = x.bytes }) (ew t)
    ∙ placing (here f p t) ph (frame_bytes (frame_of (here f p t) ph image)) buffer

-- By value: the call is the one decided on the client's front and its walk's place.
pub request-is : (c : Client) (f : Front) (p : Place) (o : Opening) (r : Started) (image buffer after : List ℕ)
    → f ≡ front_of c → p ≡ place_of c.walk
    → ((t : Table) → record { answer = started_of o (walk_of p t); bytes = after } ≡ request (here f p t) image buffer)
    → r ≡ started_of o c.walk → record { answer = r; bytes = after } ≡ request c image buffer
request-is c f p o r image buffer after e g h k = rw k (rw (e, g) at h c.walk.found)
