-- The client on the operations' machine: each call's answer, and the client after it.
use Rattle.std.specs.Prelude.{ℕ, ◌*◌, ◌≤◌, Bool, true, ◌&&◌, cond, List, [], ◌∷◌, ◌++◌, leb, ltb, length, drop}
use Rattle.std.proofs.Math.Option.{Option, none, some}
use Rattle.paper.specs.Client.{Says, refused, onward, over, id_after, within_longest, other_length, seed_after, bytes_of}
use Rattle.paper.specs.Client.{handing, cleared, reading, place}
use Rattle.paper.specs.Hearing.{Id, bits_of, longest, on_some}
use Rattle.theory.specs.OperationMachine as OperationMachine
use Rattle.theory.specs.OperationMachine.{probing, parting, seeking, walking, Purpose, tell, clear, load, Job}
use Rattle.theory.specs.OperationMachine.{informing, erasing, writing, verifying, resetting, Phase, selecting}
use Rattle.theory.specs.OperationMachine.{demanding, leaving, Then, to, ends, refuses, step, starting}

-- P holds of the id, if there is one.
abbrev pub OfAny : (Id → Type 0) → Option Id → Type 0
OfAny P none = Unit {0}
OfAny P (some id) = P id

-- The id, if there is one, has at most 16 bytes.
abbrev pub Brief : Option Id → Type 0
Brief uid = OfAny (λ id. length id ≤ longest) uid

-- No operation runs; one runs and its next request can be asked for; one runs and its request is out.
pub data Turn : Type 0 where
  idle : Turn
  ready : Phase → Turn
  waiting : Phase → Turn

pub record Client : Type 0 where
  pub seed : ℕ
  pub id : Option Id
  pub turn : Turn

unfoldable pub fresh : Client
fresh = record { seed = 0; id = none; turn = idle }

abbrev pub turned : Client → Turn → Client
turned c t = record { seed = c.seed; id = c.id; turn = t }

abbrev pub on_turn {ℓ} : {A : Type ℓ} → Turn → A → (Phase → A) → (Phase → A) → A
on_turn idle i r w = i
on_turn (ready ph) i r w = r ph
on_turn (waiting ph) i r w = w ph

-- The length of the image that a running flash was started with, by its purpose, job or phase; none for another
-- operation.
abbrev pub lent_for : Purpose → Option ℕ
lent_for tell = none
lent_for clear = none
lent_for (load n) = some n

abbrev pub lent_to : Job → Option ℕ
lent_to (informing why) = lent_for why
lent_to (erasing why info address) = lent_for why
lent_to (writing n info offset retries) = some n
lent_to (verifying n info) = some n
lent_to (resetting bootloader baud) = none

abbrev pub lends : Phase → Option ℕ
lends (selecting s) = none
lends (demanding j) = lent_to j
lends (leaving bootloader baud) = none

-- A call's answer, the client after it, and where the unread rest begins.
pub record Told : Type 0 where
  pub says : Says
  pub client : Client
  pub rest : ℕ

-- The answer and the client after a step, with the progress made and where the unread rest begins.
unfoldable pub settle : Client → Option (ℕ × ℕ) → Then → ℕ → Told
settle c progress (to ph) at = record { says = onward progress; client = turned c (ready ph); rest = at }
settle c progress (ends o) at =
    record {
      says = over progress o;
      client = record { seed = c.seed; id = id_after o c.id; turn = idle };
      rest = at;
    }
settle c progress (refuses n carries) at = record { says = refused n carries; client = turned c idle; rest = at }

-- A refusal that changes no state.
abbrev pub unchanged : Client → ℕ → List ℕ → Told
unchanged c n carries = record { says = refused n carries; client = c; rest = 0 }

unfoldable pub start : Client → Bool → Phase → Told
start c good ph = on_turn c.turn (cond good (settle c none (to ph) 0) (unchanged c 13 [])) (λ p. unchanged c 21 [])
    (λ p. unchanged c 21 [])

unfoldable pub start_select : Client → Id → ℕ → Told
start_select c bytes bits = start c (within_longest bytes && (leb bits 128 && leb bits (8 * length bytes)))
    (selecting (probing bytes bits))

unfoldable pub start_deselect : Client → Told
start_deselect c = start c true (selecting parting)

unfoldable pub start_attach : Client → Option Id → Told
start_attach c uid = start c (on_some uid true within_longest) (selecting (seeking uid))

unfoldable pub start_discover : Client → Id → Told
start_discover c bytes = start c (within_longest bytes) (selecting (walking (starting (bits_of bytes))))

unfoldable pub start_info : Client → Told
start_info c = start c true (demanding (informing tell))

unfoldable pub start_erase : Client → Told
start_erase c = start c true (demanding (informing clear))

unfoldable pub start_flash : Client → List ℕ → Told
start_flash c image = start c true (demanding (informing (load (length image))))

-- The phase of a reset. In boot the answer is awaited.
abbrev pub resets : Bool → Option ℕ → Bool → Phase
resets bootloader baud in_boot = cond in_boot (demanding (resetting bootloader baud)) (leaving bootloader baud)

unfoldable pub start_reset : Client → Bool → Bool → Told
start_reset c bootloader in_boot = start c true (resets bootloader none in_boot)

unfoldable pub start_set_baud : Client → ℕ → Bool → Bool → Told
start_set_baud c baud bootloader in_boot = start c true (resets bootloader (some baud) in_boot)

-- The answer to asking for a request, with the client and the buffer after it.
pub record Asked : Type 0 where
  pub says : Says
  pub client : Client
  pub buffer : List ℕ

-- A refusal that changes no state and writes no byte.
abbrev pub withholds : Client → ℕ → List ℕ → List ℕ → Asked
withholds c n carries buffer = record { says = refused n carries; client = c; buffer = buffer }

-- The turn after a request is handed out.
unfoldable pub handed_out : Phase → Turn
handed_out (selecting s) = waiting (selecting s)
handed_out (demanding j) = waiting (demanding j)
handed_out (leaving bootloader baud) = idle

unfoldable pub grant : Client → List ℕ → ℕ → Phase → List ℕ → Asked
grant c bytes seed ph buffer =
    cond (ltb (length buffer) (length bytes)) (withholds c 16 (length bytes ∷ []) buffer)
    (record {
      says = handing (OperationMachine.request ph) (length bytes);
      client = record { seed = seed; id = c.id; turn = handed_out ph };
      buffer = bytes ++ drop (length bytes) buffer;
    })

-- "Order: 21, 20, 13, 16".
unfoldable pub request : Client → List ℕ → List ℕ → Asked
request c image buffer =
    on_turn c.turn (withholds c 21 [] buffer)
    (λ ph.
    cond (other_length (lends ph) image) (withholds c 20 [] buffer)
    (grant c (bytes_of (OperationMachine.request ph) (seed_after (OperationMachine.request ph) c.seed) image)
    (seed_after (OperationMachine.request ph) c.seed) ph buffer))
    (λ ph. withholds c 21 [] buffer)

abbrev pub fails : Client → ℕ → Told
fails c at = record { says = refused 1 []; client = turned c idle; rest = at }

unfoldable pub record' : Client → List ℕ → List ℕ → Told
record' c image bytes =
    on_turn c.turn (unchanged c 21 []) (λ ph. unchanged c 21 [])
    (λ ph.
    cond (other_length (lends ph) image) (unchanged c 20 [])
    (on_some (reading (OperationMachine.request ph) image bytes) (fails c (place (OperationMachine.request ph) bytes))
    (λ a. settle (record { seed = c.seed; id = cleared (OperationMachine.request ph) c.id; turn = c.turn })
    (step ph a).progress (step ph a).then (place (OperationMachine.request ph) bytes))))

unfoldable pub link_failed : Client → Told
link_failed c = on_turn c.turn (unchanged c 21 []) (λ ph. unchanged c 21 []) (λ ph. fails c 0)
