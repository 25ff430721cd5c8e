-- The customer's condition 2, the part that is proved: frames, checks, hearing, walk and flash order agree with the
-- written definitions.
use Prim.Native.Nat.{ℕ, ◌*◌, ◌<◌, ◌≤◌}
use mathlib.Core.Bool.{Bool, true, false}
use mathlib.Core.List.{List, [], ◌∷◌, ◌++◌}
use mathlib.Core.Option.{Option, none, some}
use mathlib.Core.Path.{◌≡◌, refl}
use lib.ListN.{length, take, drop}
use Rattle.paper.specs.Answers.{Reply, ok, answered, answer_from, answer}
use Rattle.paper.specs.Attach as Attach
use Rattle.paper.specs.Count.{All}
use Rattle.paper.specs.Flash as Flash
use Rattle.paper.specs.Flash.{inform_only, erase, flash, reset}
use Rattle.paper.specs.Frame.{number, crc_bit, crc_byte, crc_from, check, Frame, whole, bad_check, frame_bytes, skipped}
use Rattle.paper.specs.Frame.{right_check, read_sized, read_synced, read}
use Rattle.paper.specs.Hearing.{Id, bits_of, hear, garble}
use Rattle.paper.proofs.Words.{Bytes}
use Rattle.theory.specs.ClientMachine.{Brief}
use Rattle.theory.specs.ClientDriven.{Round, Lends}
use Rattle.theory.specs.FlashOrder.{Event, play, everything, told, writes_at, Kept, Stands, Allowed, Flashed, Fronts}
use Rattle.theory.specs.FlashOrder.{Bounded, most, erases_most, flash_most}
use Rattle.theory.specs.HandedOut.{FlashOrder}
use Rattle.theory.specs.OldCheck.{old_bytes}
use Rattle.theory.proofs.flash.RequestsBounded as Bound
use Rattle.theory.proofs.flash.WrittenBytes as Carries
use Rattle.theory.proofs.flash.WrittenBytes.{CarriesIn}
use Rattle.theory.proofs.flash.FlashOrder as Order
use Rattle.theory.proofs.frames.FramesReadBack as FramesReadBack
use Rattle.theory.proofs.frames.FramesReadBack.{Fits}
use Rattle.theory.proofs.frames.OldCheckRefused as OldCheckRefused
use Rattle.client.specs.declared.Client.{Client}
use Rattle.client.specs.declared.Job.{Job}
use Rattle.client.specs.declared.Job.TheVariants.{Resetting}
use Rattle.client.specs.declared.Phase.TheVariants.{Demand}
use Rattle.client.specs.declared.Turn.TheVariants.{Waiting}
use Rattle.client.specs.Clients.{turned, fresh}
use Rattle.client_start.specs.Start.{start_select, start_deselect, start_attach, start_attach_to, start_discover, start_info}
use Rattle.client_start.specs.Start.{start_erase, start_flash, start_reset, start_set_baud}
use Rattle.client_record.specs.Record.{record'}
use Rattle.refinement.specs.ClientDriven.{driven, sends, answer_of, Plays}
use Rattle.refinement.specs.ClientServed.{opening, resting}
use Rattle.refinement.proofs.client.UnreadRest as EitherWay
use Rattle.refinement.proofs.client.OperationsAreTalk as Operations

-- A frame that was written is read back whole, whatever bytes follow.
pub frame-read : (f : Frame) → Fits f → (more : List ℕ) → read (frame_bytes f ++ more) ≡ whole 0 f
frame-read f fits more = FramesReadBack.read-written f fits more

-- W-202 withdraws document 01's "A5 included". No check is right by both rules: a frame with the old check is read as
-- one of bad check, and a record that begins with such a frame is heard as Garble, whatever bytes follow.
pub old-frame-read : (f : Frame) → Fits f → (more : List ℕ) → read (old_bytes f ++ more) ≡ bad_check 0 f
old-frame-read = OldCheckRefused.old-read

pub old-frame-heard : (f : Frame) → Fits f → (more : List ℕ) → hear (old_bytes f ++ more) ≡ garble
old-frame-heard = OldCheckRefused.old-heard

-- Each operation is started on a client with none running and driven over any records and failed links. It then agrees
-- with document 01's conversation: in the answer with its progress, the place where the unread rest begins, the seed,
-- the attached id, and the next request byte for byte. Every request handed out on the way is the one of document 01's
-- client. The buffer holds any request; the seed is any byte; an id is attached or none is.
module _ (buffer : List ℕ) (room : 1036 ≤ length buffer) (seed : ℕ) (byte : seed < 256) (id : Option Id)
    (brief : Brief id) (rounds : List Round) where
  pub record Drives : Type 0 where
    pub select : (prefix : List ℕ) (bits : ℕ) → length prefix ≤ 16 → bits ≤ 8 * length prefix
        → Plays none seed id (Attach.select_only (take bits (bits_of prefix))) buffer rounds
        (start_select (resting seed id) prefix bits)
    pub deselect : Plays none seed id Attach.deselect buffer rounds (start_deselect (resting seed id))
    pub attach : Plays none seed id (Attach.attach none) buffer rounds (start_attach (resting seed id))
    pub attach-to : (prefix : List ℕ) → length prefix ≤ 16
        → Plays none seed id (Attach.attach (some prefix)) buffer rounds (start_attach_to (resting seed id) prefix)
    pub discover : (prefix : List ℕ) → length prefix ≤ 16 → Bytes prefix
        → Plays none seed id (Attach.discover prefix) buffer rounds (start_discover (resting seed id) prefix)
    pub info : Plays none seed id Flash.inform_only buffer rounds (start_info (resting seed id))
    pub erase : Plays none seed id Flash.erase buffer rounds (start_erase (resting seed id))
    pub flash : (image : List ℕ) → All (Lends (some (length image))) rounds
        → Plays (some (length image)) seed id (Flash.flash (length image)) buffer rounds
        (start_flash (resting seed id) image)
    pub reset : (bootloader in_boot : Bool)
        → Plays none seed id (Flash.reset bootloader none in_boot) buffer rounds
        (start_reset (resting seed id) bootloader in_boot)
    pub set-baud : (baud : ℕ) (bootloader in_boot : Bool)
        → Plays none seed id (Flash.reset bootloader (some baud) in_boot) buffer rounds
        (start_set_baud (resting seed id) baud bootloader in_boot)

  pub drives : Drives
  drives = record {
    select = Operations.select-driven buffer room seed byte id brief rounds;
    deselect = Operations.deselect-driven buffer room seed byte id brief rounds;
    attach = Operations.attach-driven buffer room seed byte id brief rounds;
    attach-to = Operations.attach-to-driven buffer room seed byte id brief rounds;
    discover = Operations.discover-driven buffer room seed byte id brief rounds;
    info = Operations.info-driven buffer room seed byte id brief rounds;
    erase = Operations.erase-driven buffer room seed byte id brief rounds;
    flash = Operations.flash-driven buffer room seed byte id brief rounds;
    reset = Operations.reset-driven buffer room seed byte id brief rounds;
    set-baud = Operations.set-baud-driven buffer room seed byte id brief rounds;
  }

  -- "Over any replies: no Erase before Info and image pass, no Write before the last Erase is answered, each Write's
  -- address is the total length of Writes answered Ok so far, and on success that total is the padded length": read
  -- from the bytes handed out, and what happened after each request.
  pub flash-handed : (image : List ℕ) → All (Lends (some (length image))) rounds → All (λ r. Bytes r.lent) rounds
      → FlashOrder (length image) (sends buffer rounds (opening (start_flash (resting seed id) image)))
      (answer_of (driven buffer rounds (opening (start_flash (resting seed id) image))))
  flash-handed = Operations.flash-handed buffer room seed byte id brief rounds

-- The same for the conversation, over any replies: each request is allowed after what was asked and answered before it.
-- On success the device returned the check of the image that was lent with its reply.
pub flash-in-order : (n : ℕ) (es : List Event)
    → Kept (Allowed n) (play (flash n) es []).0
    × Stands (Allowed n) (Flashed n) (play (flash n) es []).0 (play (flash n) es []).1
flash-in-order = Order.flash-in-order

-- The Erases handed out are the first ones of the full list, in its order.
pub flash-erases-front : (n : ℕ) (es : List Event)
    → Fronts (play (flash n) es []).0 (everything (play (flash n) es []))
flash-erases-front = Order.flash-erases-front

-- At most 17 Writes at one offset.
pub flash-writes-few : (n : ℕ) (es : List Event) (a : ℕ) → writes_at a (everything (play (flash n) es [])) ≤ 17
flash-writes-few = Order.flash-writes-few

-- Each Write carries the padded image from its offset on.
pub flash-carries : (image : List ℕ) (es : List Event)
    → All (CarriesIn image) (everything (play (flash (length image)) es []))
flash-carries = Carries.flash-carries

-- Info, erase, flash and reset each end. Info and reset take one request. Erase takes at most one for the Info and one
-- for each erase address; flash also at most 17 for each chunk, and one for the Verify.
pub info-ends : (es : List Event) → Bounded 1 es (play inform_only es [])
info-ends = Bound.inform-bounded

pub erase-ends : (es : List Event) → Bounded (most erases_most (told (play erase es []).0)) es (play erase es [])
erase-ends = Bound.erase-bounded

pub flash-ends : (n : ℕ) (es : List Event)
    → Bounded (most (flash_most n) (told (play (flash n) es []).0)) es (play (flash n) es [])
flash-ends = Bound.flash-bounded

pub reset-ends : (bootloader : Bool) (baud : Option ℕ) (awaited : Bool) (es : List Event)
    → Bounded 1 es (play (reset bootloader baud awaited) es [])
reset-ends = Bound.reset-bounded

-- The unread rest: bytes after an answering frame may come with its record, or later. The host puts the rest before the
-- next record, and the result is the same.
module _ (c : Client) (j : Job) (out : c.front.turn ≡ Waiting (Demand j)) (image a x : List ℕ) (r : Reply) (end : ℕ)
    (e : answer a ≡ answered r end) where
  pub record-either-way : record' c image (a ++ x) ≡ record' c image a
  record-either-way = EitherWay.record-either-way c j out image a x r end e

  pub rest-either-way : drop (record' c image (a ++ x)).rest (a ++ x) ≡ drop (record' c image a).rest a ++ x
  rest-either-way = EitherWay.rest-either-way c j out image a x r end e

-- An example: a Reset whose reply is awaited, and its reply.
abbrev resetting : Client
resetting = turned fresh (Waiting (Demand (Resetting (record { bootloader = true; given = false; baud = 0 }))))

abbrev reset-answered : List ℕ
reset-answered = 0xA5 ∷ 0x04 ∷ 0x01 ∷ 0x00 ∷ 0x00 ∷ 0x00 ∷ 0x00 ∷ 0x00 ∷ 0x00 ∷ 0x00 ∷ 0x4E ∷ 0xC3 ∷ []

pub reset-either-way : (x : List ℕ) → record' resetting [] (reset-answered ++ x) ≡ record' resetting [] reset-answered
unfolding answer answer_from read read_synced read_sized right_check skipped number check crc_from crc_byte crc_bit fresh
reset-either-way x = record-either-way resetting
    (Resetting (record { bootloader = true; given = false; baud = 0 })) refl [] reset-answered x (ok []) 12 refl
