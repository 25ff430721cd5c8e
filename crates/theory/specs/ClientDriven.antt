-- Document 01's client driven by a host over any events: its last answer, the requests handed out, and how its
-- conversation stands.
use Rattle.std.specs.Prelude.{ℕ, ◌+◌, ◌/◌, Bool, true, false, cond, List, [], ◌∷◌, map, ◌≡◌, length, take}
use Rattle.std.proofs.Math.Option.{Option, none, some}
use Rattle.paper.specs.Client.{idle, ready, Client, Says, refused, granted, closing, onward, over, Told, id_after}
use Rattle.paper.specs.Client.{seed_after, Asked, request, cleared, place, record', link_failed}
use Rattle.paper.specs.Hearing.{Id, on_some}
use Rattle.paper.specs.Talk.{Ask, select, demand, leave, AnswerTo, Talk, return, stop, report, ask, Outcome}
use Rattle.theory.specs.FlashOrder.{Past, Event, heard, failed, Stand, returned, refused, lost, pending}
use Rattle.theory.specs.FlashOrder.{read_event, carried}

-- One round: the image lent with the request, and the event after the request is handed out.
pub record Round : Type 0 where
  pub lent : List ℕ
  pub event : Event

abbrev pub events : List Round → List Event
events rounds = map (λ r. r.event) rounds

-- A request handed out: its bytes, and the event after it; none where no answer is awaited.
pub record Sent : Type 0 where
  pub bytes : List ℕ
  pub then : Option Event

unfoldable pub goes_on : Says → Bool
goes_on (refused n carries) = false
goes_on (granted n) = false
goes_on (closing n) = false
goes_on (onward p) = true
goes_on (over p o) = false

-- Cases of the answer to `request`: a request whose reply is awaited; one that ends its operation; anything else.
abbrev pub on_asked {ℓ} : {A : Type ℓ} → Says → (ℕ → A) → (ℕ → A) → A → A
on_asked (refused n carries) awaited last other = other
on_asked (granted n) awaited last other = awaited n
on_asked (closing n) awaited last other = last n
on_asked (onward p) awaited last other = other
on_asked (over p o) awaited last other = other

-- "hands back the bytes heard, or says that the link failed": the call for an event.
unfoldable pub tells : Client → Event → Told
tells c (heard image bytes) = record' c image bytes
tells c failed = link_failed c

-- The calls of a round: asking for the request, then telling the event. Where no event follows, `closes` makes the
-- request's answer the last one.
abbrev pub asking : List ℕ → Round → Told → Asked
asking buffer r t = request t.client r.lent buffer

abbrev pub telling : List ℕ → Round → Told → Told
telling buffer r t = tells (asking buffer r t).client r.event

abbrev pub closes : Asked → Told
closes a = record { says = a.says; client = a.client; rest = 0 }

-- "the host starts an operation, asks for a request, sends it, and hands back the bytes heard, or says that the link
-- failed": the last answer, from the start's answer, while the operation goes on and requests are granted.
unfoldable pub driven : List ℕ → List Round → Told → Told
driven buffer [] t = t
driven buffer (r ∷ rs) t =
    cond (goes_on t.says)
    (on_asked (asking buffer r t).says (λ k. driven buffer rs (telling buffer r t)) (λ k. closes (asking buffer r t))
    (closes (asking buffer r t)))
    t

-- "A granted request fills its own length of the buffer": the first k bytes, and the event after them.
abbrev pub sending : ℕ → List ℕ → Option Event → Sent
sending k buffer then = record { bytes = take k buffer; then = then }

-- The requests that `driven` hands out, the first one first.
unfoldable pub sends : List ℕ → List Round → Told → List Sent
sends buffer [] t = []
sends buffer (r ∷ rs) t =
    cond (goes_on t.says)
    (on_asked (asking buffer r t).says
    (λ k. sending k (asking buffer r t).buffer (some r.event) ∷ sends buffer rs (telling buffer r t))
    (λ k. sending k (asking buffer r t).buffer none ∷ []) [])
    []

-- The image has the length that the flash was started with. Without a flash any image will do.
abbrev pub OfLength : Option ℕ → List ℕ → Type 0
OfLength none image = Unit {0}
OfLength (some n) image = length image ≡ n

abbrev pub LendsIn : Option ℕ → Event → Type 0
LendsIn n (heard image bytes) = OfLength n image
LendsIn n failed = Unit {0}

-- Both images lent in a round have that length.
abbrev pub Lends : Option ℕ → Round → Type 0
Lends n r = OfLength n r.lent × LendsIn n r.event

-- The length of a request in bytes.
unfoldable pub size_of : Ask → ℕ
size_of (select p) = 14 + (length p + 7) / 8
size_of (demand d) = 12 + carried d.payload
size_of (leave d) = 12 + carried d.payload

-- "A Select adds 1 to the seed", whether or not it is answered: the seed after a past, and after a conversation.
unfoldable pub seed_over : ℕ → Past → ℕ
seed_over seed [] = seed
seed_over seed (x ∷ past) = seed_after x.asked (seed_over seed past)

abbrev pub seed_at : ℕ → Past × Stand Outcome → ℕ
seed_at seed (past, returned o) = seed_over seed past
seed_at seed (past, refused n carries) = seed_over seed past
seed_at seed (past, lost q) = seed_after q (seed_over seed past)
seed_at seed (past, pending q) = seed_over seed past

-- "Deselect .. its record, once handed in, clears the attached id"; "One: attached. Unaddressed: success with no id":
-- the attached id after a past, and after a conversation.
unfoldable pub id_over : Option Id → Past → Option Id
id_over id [] = id
id_over id (x ∷ past) = cleared x.asked (id_over id past)

abbrev pub id_at : Option Id → Past × Stand Outcome → Option Id
id_at id (past, returned o) = id_after o (id_over id past)
id_at id (past, refused n carries) = id_over id past
id_at id (past, lost q) = id_over id past
id_at id (past, pending q) = id_over id past

-- The result of the latest event: the progress made, and where the unread rest begins.
pub record Brought : Type 0 where
  pub progress : Option (ℕ × ℕ)
  pub rest : ℕ

-- After a start: no progress, and no rest.
abbrev pub nothing_yet : Brought
nothing_yet = record { progress = none; rest = 0 }

-- Where the unread rest begins after the event that follows a request.
unfoldable pub rest_after : Ask → Event → ℕ
rest_after (select p) (heard image bytes) = place (select p) bytes
rest_after (select p) failed = 0
rest_after (demand d) (heard image bytes) = place (demand d) bytes
rest_after (demand d) failed = 0
rest_after (leave d) (heard image bytes) = 0
rest_after (leave d) failed = 0

-- The result of the latest of these events in a conversation, given the result before them.
unfoldable pub brought : {A : Type 0} → Talk A → List Event → Brought → Brought
brought (return a) es b = b
brought (stop n carries) es b = b
brought (report x y m) es b = brought m es (record { progress = some (x, y); rest = b.rest })
brought (ask q f) [] b = b
brought (ask q f) (e ∷ es) b =
    on_some (read_event q e) (record { progress = none; rest = rest_after q e })
    (λ a. brought (f a) es (record { progress = none; rest = rest_after q e }))

-- "otherwise the operation succeeds on handing out the request": success is the answer to the latest record, or to the
-- latest request where no answer is awaited.
abbrev pub success_after : Ask → Option (ℕ × ℕ) → Outcome → Says
success_after (select q) p o = over p o
success_after (demand d) p o = over p o
success_after (leave d) p o = closing (size_of (leave d))

unfoldable pub success : Past → Option (ℕ × ℕ) → Outcome → Says
success [] p o = over p o
success (x ∷ past) p o = success_after x.asked p o

-- The latest answer, by how the conversation stands.
abbrev pub said_at : Past × Stand Outcome → Brought → Says
said_at (past, returned o) b = success past b.progress o
said_at (past, refused n carries) b = refused n carries
said_at (past, lost q) b = refused 1 []
said_at (past, pending q) b = onward b.progress

-- The client with no operation, or with this request next.
abbrev pub resting : ℕ → Option Id → Client
resting seed id = record { seed = seed; id = id; image = none; left = idle }

pub record Ready (n : Option ℕ) (seed : ℕ) (id : Option Id) (q : Ask) (c : Client) : Type 0 where
  pub then : AnswerTo q → Talk Outcome
  pub client : c ≡ record { seed = seed; id = id; image = n; left = ready q then }

abbrev pub Leaves : Option ℕ → ℕ → Option Id → Stand Outcome → Client → Type 0
Leaves n seed id (returned o) c = c ≡ resting seed id
Leaves n seed id (refused k carries) c = c ≡ resting seed id
Leaves n seed id (lost q) c = c ≡ resting seed id
Leaves n seed id (pending q) c = Ready n seed id q c

-- The answer and the client are those that the conversation leads to. The client began with this seed and this attached
-- id or none; n is the length of the images lent.
pub record StandsAs (n : Option ℕ) (seed : ℕ) (id : Option Id) (r : Past × Stand Outcome) (b : Brought)
    (t : Told) : Type 0 where
  pub says : t.says ≡ said_at r b
  pub rest : t.rest ≡ b.rest
  pub client : Leaves n (seed_at seed r) (id_at id r) r.1 t.client
