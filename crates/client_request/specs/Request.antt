-- Asking for a request: the answer, the client after it, and the bytes written.
use Rattle.std.specs.Prelude.{ℕ, ◌+◌, ◌*◌, ◌%◌, Result, cond, List, [], ◌++◌, length, drop, nat_lt}
use Rattle.ids.specs.Ids.{id_of}
use Rattle.wire.specs.declared.Short.{Short}
use Rattle.frame.specs.Writing.{on_placed}
use Rattle.client_demand.specs.Demands.{reset_of, demand_of}
use Rattle.paper.specs.Client.{demand_frame}
use Rattle.paper.specs.Frame.{Frame, frame_bytes}
use Rattle.paper.specs.Hearing.{select_frame}
use Rattle.select.specs.Selects.{asked}
use Rattle.walk.specs.declared.Ask.{Ask}
use Rattle.walk.specs.Moves as Moves
use Rattle.walk.specs.Moves.{nobody}
use Rattle.client.specs.declared.Search.{Search}
use Rattle.client.specs.declared.Phase.{Phase}
use Rattle.client.specs.declared.Phase.TheVariants.{Select, Demand}
use Rattle.client.specs.declared.Turn.TheVariants.{Waiting}
use Rattle.client.specs.declared.Client.{Client}
use Rattle.client.specs.declared.Refusal.{Refusal}
use Rattle.client.specs.declared.Refusal.TheVariants.{ShortBuffer, OtherImage, OutOfTurn}
use Rattle.client.specs.declared.Says.{Says}
use Rattle.client.specs.declared.Says.TheVariants.{Granted, Closing}
use Rattle.client.specs.declared.Started.{Started}
use Rattle.client.specs.Clients.{on_turn, on_phase, on_search, other_image, idle, turned, refuse}

-- The bits that a Select asks for.
unfoldable pub asks : Client → Search → Ask
asks c s =
    on_search s
    (record { bits = c.front.prefix.bytes; count = c.front.bits })
    nobody
    (λ given. record { bits = c.front.prefix.bytes; count = 8 * length (id_of c.front.prefix) })
    (λ given. nobody)
    (λ q. Moves.asks c.walk q)

abbrev pub next_seed : ℕ → ℕ
next_seed seed = (seed + 1) % 256

-- The client with another seed.
abbrev pub seeded : Client → ℕ → Client
seeded c seed = record {
  front = record {
    seed = seed;
    attached = c.front.attached;
    id = c.front.id;
    turn = c.front.turn;
    prefix = c.front.prefix;
    bits = c.front.bits;
  };
  walk = c.walk;
}

-- The Select of a search, as document 01's frame.
unfoldable pub search_frame : Client → Search → Frame
search_frame c s = select_frame (next_seed c.front.seed) (asked (asks c s).bits ((asks c s).count % 256))

-- The request of a phase, as document 01's frame.
unfoldable pub frame_of : Client → Phase → List ℕ → Frame
frame_of c p image =
    on_phase p (λ s. search_frame c s) (λ j. demand_frame (demand_of j (length image)) image)
    (λ reset. demand_frame (reset_of reset) [])

-- What the answer says when a request of n bytes is handed out. "In boot the reply is awaited; otherwise the operation
-- succeeds on handing out the request."
unfoldable pub handing : Phase → ℕ → Says
handing p n = on_phase p (λ s. Granted n) (λ j. Granted n) (λ reset. Closing n)

-- The client after its request is handed out.
unfoldable pub handed : Client → Phase → Client
handed c p =
    on_phase p
    (λ s. seeded (turned c (Waiting (Select s))) (next_seed c.front.seed))
    (λ j. turned c (Waiting (Demand j)))
    (λ reset. idle c)

-- The request is handed out if it was written. If the buffer was too short, it is refused.
unfoldable pub granted : Client → Phase → Result ℕ Short → Started
granted c p w = on_placed w (λ n. record { says = handing p n; client = handed c p }) (λ n. refuse c (ShortBuffer n))

-- The answer, and the buffer after it.
pub record Asking : Type 0 where
  pub answer : Started
  pub bytes : List ℕ

-- Refused with no byte written.
abbrev pub withheld : Client → Refusal → List ℕ → Asking
withheld c r buffer = record { answer = refuse c r; bytes = buffer }

-- "A granted request fills its own length of the buffer and changes no byte after it"; else "request .. buffer too
-- short .. length needed".
unfoldable pub granting : Client → Phase → List ℕ → List ℕ → Asking
granting c p bytes buffer =
    cond (nat_lt (length buffer) (length bytes)) (withheld c (ShortBuffer (length bytes)) buffer)
    (record {
      answer = record { says = handing p (length bytes); client = handed c p };
      bytes = bytes ++ drop (length bytes) buffer;
    })

-- The request of a phase, when the image has the right length.
unfoldable pub asked_for : Client → Phase → List ℕ → List ℕ → Asking
asked_for c p image buffer = granting c p (frame_bytes (frame_of c p image)) buffer

-- The whole call. 21 is checked first, then 20, then 16.
unfoldable pub request : Client → List ℕ → List ℕ → Asking
request c image buffer =
    on_turn c.front.turn
    (withheld c OutOfTurn buffer)
    (λ p. cond (other_image p (length image)) (withheld c OtherImage buffer) (asked_for c p image buffer))
    (λ p. withheld c OutOfTurn buffer)
