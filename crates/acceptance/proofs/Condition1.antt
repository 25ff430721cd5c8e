-- The customer's condition 1: every call accepts any arguments and returns. The theorems say what is refused, in which
-- order, and what a refusal leaves. No call has a precondition, and each theorem holds for every value of the client.
use Prim.Native.Nat.{ℕ}
use mathlib.Core.Bool.{Bool, true, false, cond}
use mathlib.Core.List.{List}
use mathlib.Core.Path.{◌≡◌}
use lib.ListN.{length}
use Rattle.paper.specs.Client.{within_longest}
use Rattle.paper.specs.Frame.{frame_bytes}
use Rattle.ids.specs.Ids.{no_id, id_from}
use Rattle.walk.specs.declared.Phase.TheVariants.{Asked}
use Rattle.walk.specs.Moves.{no_walk, begin}
use Rattle.client.specs.declared.Client.{Client}
use Rattle.client.specs.declared.Job.TheVariants.{Informing}
use Rattle.client.specs.declared.Phase.{Phase}
use Rattle.client.specs.declared.Phase.TheVariants.{Select, Demand}
use Rattle.client.specs.declared.Purpose.TheVariants.{Tell, Clear, Load}
use Rattle.client.specs.declared.Refusal.{Refusal}
use Rattle.client.specs.declared.Refusal.TheVariants.{Io, OtherImage, OutOfTurn}
use Rattle.client.specs.declared.Search.TheVariants.{Probing, Parting, Seeking, Walking}
use Rattle.client.specs.declared.Says.TheVariants.{Refused}
use Rattle.client.specs.declared.Turn.TheVariants.{Idle, Ready, Waiting}
use Rattle.client.specs.Clients.{begun, other_image, refuses, stops}
use Rattle.client_start.specs.Start.{start_select, start_deselect, start_attach, start_attach_to, start_discover, start_info}
use Rattle.client_start.specs.Start.{start_erase, start_flash, start_reset, start_set_baud}
use Rattle.client_request.specs.Request.{frame_of, withheld, granting, request}
use Rattle.client_record.specs.Record.{answered_to, record', link_failed}
use Rattle.refinement.specs.Refusals.{keeps, parts, leaves, begins, good_count, asking, reset_phase}
use Rattle.refinement.proofs.refused.Starts as Refusals
use Rattle.refinement.proofs.refused.Records as Records
use Rattle.refinement.proofs.refused.Requests as Requests

module _ (c : Client) where
  -- The starts: 21 while an operation is running; else 13 exactly where the arguments are bad; else the operation
  -- begins. The seed and the attached id stay as they were. A refused start changes nothing.
  pub record Starts : Type 0 where
    pub select : (prefix : List ℕ) (bits : ℕ)
        → start_select c prefix bits ≡ begins c (good_count prefix bits)
        (begun c (Ready (Select Probing)) (id_from prefix) bits no_walk)
    pub deselect : start_deselect c ≡ begins c true (begun c (Ready (Select Parting)) no_id 0 no_walk)
    pub attach : start_attach c ≡ begins c true (begun c (Ready (Select (Seeking false))) no_id 0 no_walk)
    pub attach-to : (prefix : List ℕ)
        → start_attach_to c prefix ≡ begins c (within_longest prefix)
        (begun c (Ready (Select (Seeking true))) (id_from prefix) 0 no_walk)
    pub discover : (prefix : List ℕ)
        → start_discover c prefix ≡ begins c (within_longest prefix)
        (begun c (Ready (Select (Walking Asked))) no_id 0 (begin (id_from prefix)))
    pub info : start_info c ≡ begins c true (asking c (Demand (Informing Tell)))
    pub erase : start_erase c ≡ begins c true (asking c (Demand (Informing Clear)))
    pub flash : (image : List ℕ) → start_flash c image
        ≡ begins c true (asking c (Demand (Informing (Load (length image)))))
    pub reset : (bootloader in_boot : Bool)
        → start_reset c bootloader in_boot
        ≡ begins c true (asking c (reset_phase (record { bootloader = bootloader; given = false; baud = 0 }) in_boot))
    pub set-baud : (baud : ℕ) (bootloader in_boot : Bool)
        → start_set_baud c baud bootloader in_boot
        ≡ begins c true (asking c (reset_phase (record { bootloader = bootloader; given = true; baud = baud }) in_boot))

  pub starts : Starts
  starts = record {
    select = Refusals.select-begins c;
    deselect = Refusals.deselect-begins c;
    attach = Refusals.attach-begins c;
    attach-to = Refusals.attach-to-begins c;
    discover = Refusals.discover-begins c;
    info = Refusals.info-begins c;
    erase = Refusals.erase-begins c;
    flash = Refusals.flash-begins c;
    reset = Refusals.reset-begins c;
    set-baud = Refusals.set-baud-begins c;
  }

  module _ (image : List ℕ) where
    module _ (buffer : List ℕ) where
      -- Asking for a request: 21 if no operation is running, or if the last request is still unanswered.
      pub asked-idle : c.front.turn ≡ Idle → request c image buffer ≡ withheld c OutOfTurn buffer
      asked-idle = Requests.asked-idle c image buffer

      pub asked-waiting : (p : Phase) → c.front.turn ≡ Waiting p → request c image buffer ≡ withheld c OutOfTurn buffer
      asked-waiting = Requests.asked-waiting c image buffer

      -- Else 20 exactly where the image has another length. Else 16 exactly where the buffer is shorter than the
      -- request, with the length needed. Else the request fills its own length of the buffer, and no byte after it is
      -- changed.
      pub asked-ready : (p : Phase) → c.front.turn ≡ Ready p
          → request c image buffer ≡ cond (other_image p (length image)) (withheld c OtherImage buffer)
          (granting c p (frame_bytes (frame_of c p image)) buffer)
      asked-ready = Requests.asked-ready c image buffer

      -- A refused request changes neither the client nor the buffer.
      pub asked-refused : (r : Refusal) → (request c image buffer).answer.says ≡ Refused r
          → ((request c image buffer).answer.client ≡ c) × (((request c image buffer).bytes ≡ buffer) × (keeps r ≡ true))
      asked-refused = Requests.asked-refused c image buffer

    module _ (bytes : List ℕ) where
      -- Handing in a record: 21 if no request is out; else 20 if the image has another length; else the record is read.
      pub told-idle : c.front.turn ≡ Idle → record' c image bytes ≡ refuses c OutOfTurn
      told-idle = Records.told-idle c image bytes

      pub told-ready : (p : Phase) → c.front.turn ≡ Ready p → record' c image bytes ≡ refuses c OutOfTurn
      told-ready = Records.told-ready c image bytes

      pub told-waiting : (p : Phase) → c.front.turn ≡ Waiting p
          → record' c image bytes ≡ cond (other_image p (length image)) (refuses c OtherImage)
          (answered_to c p image bytes)
      told-waiting = Records.told-waiting c image bytes

      -- A record that is read is never refused with a number that changes no state. So 20 and 21 are given only as
      -- above.
      pub told-due : (p : Phase) → c.front.turn ≡ Waiting p → other_image p (length image) ≡ false → (r : Refusal)
          → (record' c image bytes).says ≡ Refused r → keeps r ≡ false
      told-due = Records.told-due c image bytes

      -- After 20 and 21 the client is unchanged and the unread rest is the whole record. Any other refusal ends the
      -- operation. After 1 the rest is empty.
      pub told-refused : (r : Refusal) → (record' c image bytes).says ≡ Refused r
          → (record' c image bytes).client ≡ leaves r c
      told-refused = Records.told-refused c image bytes

      pub told-kept : (r : Refusal) → (record' c image bytes).says ≡ Refused r → keeps r ≡ true
          → (record' c image bytes).rest ≡ 0
      told-kept = Records.told-kept c image bytes

      pub told-lost : (record' c image bytes).says ≡ Refused Io → (record' c image bytes).rest ≡ length bytes
      told-lost = Records.told-lost c image bytes

  -- Reporting a failed link: 1 if a request is out, else 21.
  pub failed-idle : c.front.turn ≡ Idle → link_failed c ≡ refuses c OutOfTurn
  failed-idle = Records.failed-idle c

  pub failed-ready : (p : Phase) → c.front.turn ≡ Ready p → link_failed c ≡ refuses c OutOfTurn
  failed-ready = Records.failed-ready c

  pub failed-waiting : (p : Phase) → c.front.turn ≡ Waiting p → link_failed c ≡ stops c (Refused Io) 0
  failed-waiting = Records.failed-waiting c

  -- What a refusal leaves. One that changes no state leaves the client as it was. Any other leaves no operation
  -- running, keeps the seed, and keeps the attached id except after a deselect (8 and 10).
  module _ (r : Refusal) where
    pub leaves_kept : keeps r ≡ true → leaves r c ≡ c
    leaves_kept = Refusals.leaves_kept r c

    pub leaves-idle : keeps r ≡ false → (leaves r c).front.turn ≡ Idle
    leaves-idle = Refusals.leaves-ended r c

    pub leaves-seed : (leaves r c).front.seed ≡ c.front.seed
    leaves-seed = Refusals.leaves-seed r c

    pub leaves-attached : parts r ≡ false
        → ((leaves r c).front.attached ≡ c.front.attached) × ((leaves r c).front.id ≡ c.front.id)
    leaves-attached = Refusals.leaves-attached r c
