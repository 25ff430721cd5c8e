-- The code's request is the machine's, byte for byte, for each client that fits.
use Prim.Native.Nat.{ℕ, ◌+◌, ◌-◌, ◌*◌, ◌/◌, ◌%◌, ◌≤◌}
use mathlib.Core.Bool.{Bool, true, false, cond}
use mathlib.Core.List.{List, [], ◌∷◌, ◌++◌, append_assoc}
use mathlib.Core.Option.{Option, none, some}
use mathlib.Core.Path.{◌≡◌, refl, sym, ◌∙◌, ap}
use native.Mathlib.Nat.{mod-eq_of_lt}
use native.Mathlib.Omega.{arith}
use lib.Dec.{ltb}
use lib.ListN.{length, take, drop, replicate, length-take}
use lib.Seq.{take-append-le, take_all}
use Rattle.paper.specs.Client.{other_length, seed_after, payload_of, demand_frame, bytes_of, handing}
use Rattle.paper.specs.Flash.{reset_request}
use Rattle.paper.specs.Frame.{le, most, frame_bytes}
use Rattle.paper.specs.Hearing as Paper
use Rattle.paper.specs.Hearing.{Prefix, bits_of, counting, select_payload, select_frame}
use Rattle.paper.specs.Talk.{Demand}
use Rattle.paper.specs.Walk.{nobody}
use Rattle.paper.proofs.Bits.{bits-length}
use Rattle.paper.proofs.Packed.{packed-length}
use Rattle.theory.specs.OperationMachine as OperationMachine
use Rattle.theory.specs.OperationMachine.{Search, probing, parting, seeking, backing, walking, Job, informing, erasing}
use Rattle.theory.specs.OperationMachine.{writing, verifying, resetting, Phase, selecting, demanding, leaving, selected}
use Rattle.theory.specs.OperationMachine.{demanded}
use Rattle.theory.specs.ClientMachine as Machine
use Rattle.theory.specs.ClientMachine.{Turn, idle, ready, waiting, turned, lends, lent_to, withholds, handed_out, grant}
use Rattle.theory.proofs.frames.IdBits.{bits-cons}
use Rattle.theory.proofs.walk.StatesFit as StatesFit
use Rattle.theory.proofs.flash.WrittenBytes.{write-carries}
use Rattle.theory.proofs.client.ClientsFit.{FitsSearch, FitsPhase, FitsTurn, Fits}
use Rattle.ids.specs.Ids.{no_id, id_of, id_from}
use Rattle.ids.proofs.Laws.{id-of-from}
use Rattle.select.specs.Selects.{asked}
use Rattle.walk.specs.Moves as Moves
use Rattle.client.specs.declared.Refusal.TheVariants.{ShortBuffer, OtherImage}
use Rattle.client.specs.Clients as Clients
use Rattle.client_demand.specs.Demands.{reset_of, demand_of}
use Rattle.client_request.specs.Request as Code
use Rattle.client_request.specs.Request.{asks, withheld, asked_for}
use Rattle.refinement.specs.CodeWalk.{walk_of, phase_of}
use Rattle.refinement.specs.CodeClient.{search_in, reset_in, job_in, phase_in, record_of, client_of, refused_as}
use Rattle.refinement.specs.CodeClient.{shown_says, asked_as}
use Rattle.refinement.proofs.walk.AskedBits.{asks-sim, asks-count, nobody-back}
use Rattle.refinement.proofs.client.JobAnswers.{other-sim, same_length}

-- The bits of bytes followed by more bytes.
pub bits-append : (x y : List ℕ) → bits_of (x ++ y) ≡ bits_of x ++ bits_of y
unfolding bits_of counting
bits-append [] y = refl
bits-append (b ∷ x) y =
    bits-cons b (x ++ y)
    ∙ ap (λ (l : List Bool). counting (Paper.bit (b ∷ [])) 0 8 ++ l) (bits-append x y)
    ∙ sym (append_assoc (counting (Paper.bit (b ∷ [])) 0 8) (bits_of x) (bits_of y))
    ∙ ap (λ (l : List Bool). l ++ bits_of y) (sym (bits-cons b x))

-- The first n bits of an id, taken from its 16 bytes.
front : (x : List ℕ) (n : ℕ) → length x ≤ 16 → n ≤ 8 * length x → asked (id_from x).bytes (n % 256) ≡ take n (bits_of x)
unfolding id_from
front x n s h =
    let m : n % 256 ≡ n = omega arith in
    ap (λ (k : ℕ). asked (x ++ replicate (16 - length x) 0) k) m
    ∙ ap (λ (l : List Bool). take n (l ++ replicate 127 false)) (bits-append x (replicate (16 - length x) 0))
    ∙ ap (take n) (append_assoc (bits_of x) (bits_of (replicate (16 - length x) 0)) (replicate 127 false))
    ∙ take-append-le n (bits_of x) _ (rw (bits-length x) h)

-- All bits of an id, taken as the code takes them.
whole : (x : List ℕ) → length x ≤ 16 → asked (id_from x).bytes (8 * length (id_of (id_from x)) % 256) ≡ bits_of x
whole x s =
    ap (λ (l : List ℕ). asked (id_from x).bytes (8 * length l % 256)) (id-of-from x s)
    ∙ front x (8 * length x) s (omega arith)
    ∙ take_all (8 * length x) (bits_of x) (rw (bits-length x) (omega arith))

empty : asked no_id.bytes (8 * length (id_of no_id) % 256) ≡ []
unfolding no_id
empty = refl

-- The bits that the code asks for are the machine's.
search-asks : (seed : ℕ) (id : Option Paper.Id) (s : Search) → FitsSearch s
    → asked (asks (record_of seed id (ready (selecting s))) (search_in s)).bits
    ((asks (record_of seed id (ready (selecting s))) (search_in s)).count % 256) ≡ selected s
unfolding asks selected Moves.nobody
search-asks seed id (probing bytes bits) f = front bytes bits f.0 f.1
search-asks seed id parting f = nobody-back
search-asks seed id (seeking none) f = empty
search-asks seed id (seeking (some uid)) f = whole uid f
search-asks seed id (backing uid) f = nobody-back
search-asks seed id (walking s) f =
    let n : (Moves.asks (walk_of s) (phase_of s.phase)).count % 256
    ≡ (Moves.asks (walk_of s) (phase_of s.phase)).count =
    mod-eq_of_lt (omega (arith, asks-count (walk_of s) (phase_of s.phase))) in
    ap (asked (Moves.asks (walk_of s) (phase_of s.phase)).bits) n ∙ asks-sim s f

-- No Select has more than 129 bits.
search-bits : (s : Search) → FitsSearch s → length (selected s) ≤ 129
unfolding selected nobody
search-bits (probing bytes bits) f = omega (arith, f.0, f.1, bits-length bytes, length-take bits (bits_of bytes))
search-bits parting f = omega arith
search-bits (seeking none) f = omega arith
search-bits (seeking (some uid)) f = omega (arith, bits-length uid)
search-bits (backing uid) f = omega arith
search-bits (walking s) f = StatesFit.request-fits s f

pub payload-length : (seed : ℕ) (q : Prefix) → length (select_payload seed q) ≡ 2 + (length q + 7) / 8
unfolding select_payload
payload-length seed q = omega (arith, packed-length ((length q + 7) / 8) q)

-- The demand of a job is the machine's, with an image of the flash's length lent.
reset-same : (bootloader : Bool) (baud : Option ℕ) → reset_of (reset_in bootloader baud) ≡ reset_request bootloader baud
reset-same bootloader none = refl
reset-same bootloader (some baud) = refl

demand-same : (j : Job) (image : List ℕ) → other_length (lent_to j) image ≡ false
    → demand_of (job_in j) (length image) ≡ demanded j
unfolding demand_of demanded
demand-same (informing why) image e = refl
demand-same (erasing why info address) image e = refl
demand-same (writing n info offset retries) image e = rw (same_length n image e)
demand-same (verifying n info) image e = rw (same_length n image e)
demand-same (resetting bootloader baud) image e = reset-same bootloader baud

-- No request is too long to be written.
pub demand-short : (j : Job) (image : List ℕ) → other_length (lent_to j) image ≡ false
    → length (payload_of (demanded j).payload image) ≤ most
unfolding demanded payload_of le
demand-short (informing why) image e = omega arith
demand-short (erasing why info address) image e = omega arith
demand-short (writing n info offset retries) image e =
    rw (same_length n image e) (omega
    (arith, (write-carries info image offset).all, (write-carries info image offset).fits))
demand-short (verifying n info) image e = omega arith
demand-short (resetting bootloader baud) image e = omega arith

-- The answer and the client after a request is handed out.
handing-sim : (ph : Phase) (n : ℕ)
    → Code.handing (phase_in ph) n ≡ (shown_says (handing (OperationMachine.request ph) n)).says
unfolding Code.handing
handing-sim (selecting s) n = refl
handing-sim (demanding j) n = refl
handing-sim (leaving bootloader baud) n = refl

module _ (c : Machine.Client) where
  handed-sim : (ph : Phase)
      → Code.handed (client_of (turned c (ready ph))) (phase_in ph)
      ≡ client_of (record { seed = seed_after (OperationMachine.request ph) c.seed; id = c.id; turn = handed_out ph })
  unfolding Code.handed handed_out Clients.idle
  handed-sim (selecting s) = refl
  handed-sim (demanding j) = refl
  handed-sim (leaving bootloader baud) = refl

  -- The request handed out, or a buffer too short for it.
  granting-sim : (ph : Phase) (bytes buffer : List ℕ)
      → Code.granting (client_of (turned c (ready ph))) (phase_in ph) bytes buffer
      ≡ asked_as (grant (turned c (ready ph)) bytes (seed_after (OperationMachine.request ph) c.seed) ph buffer)
  unfolding Code.granting grant refused_as
  granting-sim ph bytes buffer = go (ltb (length buffer) (length bytes))
    where
      next : Machine.Client
      next = record { seed = seed_after (OperationMachine.request ph) c.seed; id = c.id; turn = handed_out ph }

      go : (b : Bool)
          → cond b (withheld (client_of (turned c (ready ph))) (ShortBuffer (length bytes)) buffer)
          (record {
            answer = record {
              says = Code.handing (phase_in ph) (length bytes);
              client = Code.handed (client_of (turned c (ready ph))) (phase_in ph);
            };
            bytes = bytes ++ drop (length bytes) buffer;
          })
          ≡ asked_as (cond b (withholds (turned c (ready ph)) 16 (length bytes ∷ []) buffer)
          (record {
            says = handing (OperationMachine.request ph) (length bytes);
            client = next;
            buffer = bytes ++ drop (length bytes) buffer;
          }))
      go true = refl
      go false = λ i. record {
        answer = record { says = handing-sim ph (length bytes) i; client = handed-sim ph i };
        bytes =
            bytes ++ drop (length bytes) buffer;
      }

module _ (c : Machine.Client) (image buffer : List ℕ) where
  abbrev bytes : Phase → List ℕ
  bytes ph = bytes_of (OperationMachine.request ph) (seed_after (OperationMachine.request ph) c.seed) image

  -- The request's bytes are the machine's.
  frame-sim : (ph : Phase) → FitsPhase ph → other_length (lends ph) image ≡ false
      → frame_bytes (Code.frame_of (client_of (turned c (ready ph))) (phase_in ph) image) ≡ bytes ph
  unfolding Code.frame_of Code.search_frame bytes_of payload_of
  frame-sim (selecting s) f e = ap (λ (q : Prefix). frame_bytes (select_frame (Code.next_seed c.seed) q))
      (search-asks c.seed c.id s f)
  frame-sim (demanding j) f e = ap (λ (d : Demand). frame_bytes (demand_frame d image)) (demand-same j image e)
  frame-sim (leaving bootloader baud) f e =
      ap (λ (d : Demand). frame_bytes (demand_frame d [])) (reset-same bootloader baud)

  asked-sim : (ph : Phase) → FitsPhase ph → other_length (lends ph) image ≡ false
      → asked_for (client_of (turned c (ready ph))) (phase_in ph) image buffer
      ≡ asked_as (grant (turned c (ready ph)) (bytes ph) (seed_after (OperationMachine.request ph) c.seed) ph buffer)
  unfolding asked_for
  asked-sim ph f e =
      ap (λ (l : List ℕ). Code.granting (client_of (turned c (ready ph))) (phase_in ph) l buffer) (frame-sim ph f e)
      ∙ granting-sim c ph (bytes ph) buffer

pub request-asked : (c : Machine.Client) → Fits c → (image buffer : List ℕ)
    → Code.request (client_of c) image buffer ≡ asked_as (Machine.request c image buffer)
unfolding Code.request Machine.request refused_as
request-asked c f image buffer = go c.turn f.turn
  where
    go : (t : Turn) → FitsTurn t → Code.request (client_of (turned c t)) image buffer
        ≡ asked_as (Machine.request (turned c t) image buffer)
    go idle w = refl
    go (ready ph) w = rw (other-sim ph image) (lent (other_length (lends ph) image) refl)
      where
        lent : (b : Bool) → other_length (lends ph) image ≡ b
            → cond b (withheld (client_of (turned c (ready ph))) OtherImage buffer)
            (asked_for (client_of (turned c (ready ph))) (phase_in ph) image buffer)
            ≡ asked_as (cond b (withholds (turned c (ready ph)) 20 [] buffer)
            (grant (turned c (ready ph)) (bytes c image buffer ph)
            (seed_after (OperationMachine.request ph) c.seed) ph buffer))
        lent true e = refl
        lent false e = asked-sim c image buffer ph w e
    go (waiting ph) w = refl
