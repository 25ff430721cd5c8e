-- What meets the premises of condition 2: each theorem with a premise, applied to values that meet it.
use Prim.Native.Nat.{ℕ, ◌≤◌}
use mathlib.Core.Bool.{true}
use mathlib.Core.List.{List, [], ◌∷◌, ◌++◌}
use mathlib.Core.Option.{Option, some}
use mathlib.Core.Path.{◌≡◌, refl}
use native.Mathlib.Omega.{arith}
use lib.ListN.{length, drop, replicate, length-replicate}
use Rattle.paper.specs.Answers.{ok, answer_from, answer, sound, informed, spans_too_far, too_large, incompatible, key}
use Rattle.paper.specs.Answers.{chunk, padding, steps, apart, below, erase_addresses}
use Rattle.paper.specs.Flash.{accepted, transact, refuse_if, inform, erase_one, erase_all, prepare, repeated, persist}
use Rattle.paper.specs.Flash.{write_within, offsets, write_all, verify, inform_only, erase, flash, reset}
use Rattle.paper.specs.Frame.{le, number, crc_bit, crc_byte, crc_from, check, Frame, whole, bad_check, frame_head, frame_body}
use Rattle.paper.specs.Frame.{frame_bytes, skipped, right_check, read_sized, read_synced, read, Info, info_of}
use Rattle.paper.specs.Hearing.{Id, hear, garble}
use Rattle.paper.specs.Talk.{◌>>=◌, each, knows}
use Rattle.theory.specs.ClientDriven.{Round}
use Rattle.theory.specs.FlashOrder.{Event, heard, failed, unanswered, read_event, play, told_by, told_in, told, Flashed}
use Rattle.theory.specs.FlashOrder.{Ended, most, erases_most, flash_most}
use Rattle.theory.proofs.frames.FramesReadBack.{Fits}
use Rattle.image.specs.Images.{code_info}
use Rattle.client.specs.declared.Client.{Client}
use Rattle.client.specs.declared.Job.TheVariants.{Writing}
use Rattle.client.specs.declared.Phase.TheVariants.{Demand}
use Rattle.client.specs.declared.Turn.TheVariants.{Waiting}
use Rattle.client.specs.Clients.{turned}
use Rattle.client_record.specs.Record.{record'}
use Rattle.refinement.specs.ClientServed.{resting}
use Rattle.acceptance.proofs.Condition2 as Condition2

-- A device with capacity 6, erase_size 4, compat unset and max_payload 4.
abbrev pub device : Info
device = record {
  capacity = 6;
  erase_size = 4;
  boot_version = 3;
  app_version = 7;
  mode = 1;
  boot_baud = 2;
  compat = 0xFFFFFFFF;
  max_payload = 4;
}

-- Its replies, as bytes: its Info; Ok to an Erase, a Write and a Reset; status 3 to a Write; the image's check to a
-- Verify.
abbrev pub informs : List ℕ
informs = 0xA5 ∷ 0x00 ∷ 0x01 ∷ 0x00 ∷ 0x00 ∷ 0x00 ∷ 0x00 ∷ 0x00 ∷ 0x12 ∷ 0x00 ∷ 0x06 ∷ 0x00 ∷ 0x00 ∷ 0x00 ∷ 0x04 ∷ 0x00
    ∷ 0x03 ∷ 0x00 ∷ 0x07 ∷ 0x00 ∷ 0x01 ∷ 0x02 ∷ 0xFF ∷ 0xFF ∷ 0xFF ∷ 0xFF ∷ 0x04 ∷ 0x00 ∷ 0x07 ∷ 0x51 ∷ []

abbrev pub erased : List ℕ
erased = 0xA5 ∷ 0x01 ∷ 0x01 ∷ 0x00 ∷ 0x00 ∷ 0x00 ∷ 0x00 ∷ 0x00 ∷ 0x00 ∷ 0x00 ∷ 0x82 ∷ 0xB4 ∷ []

abbrev pub wrote : List ℕ
wrote = 0xA5 ∷ 0x02 ∷ 0x01 ∷ 0x00 ∷ 0x00 ∷ 0x00 ∷ 0x00 ∷ 0x00 ∷ 0x00 ∷ 0x00 ∷ 0xC6 ∷ 0x99 ∷ []

abbrev pub mismatched : List ℕ
mismatched = 0xA5 ∷ 0x02 ∷ 0x03 ∷ 0x00 ∷ 0x00 ∷ 0x00 ∷ 0x00 ∷ 0x00 ∷ 0x00 ∷ 0x00 ∷ 0x60 ∷ 0x16 ∷ []

abbrev pub verified : List ℕ
verified = 0xA5 ∷ 0x03 ∷ 0x01 ∷ 0x00 ∷ 0x00 ∷ 0x00 ∷ 0x00 ∷ 0x00 ∷ 0x02 ∷ 0x00 ∷ 0x87 ∷ 0xBD ∷ 0xA1 ∷ 0xDA ∷ []

abbrev pub was-reset : List ℕ
was-reset = 0xA5 ∷ 0x04 ∷ 0x01 ∷ 0x00 ∷ 0x00 ∷ 0x00 ∷ 0x00 ∷ 0x00 ∷ 0x00 ∷ 0x00 ∷ 0x4E ∷ 0xC3 ∷ []

abbrev pub image : List ℕ
image = 0x10 ∷ 0x21 ∷ 0x32 ∷ 0x43 ∷ 0x54 ∷ []

-- The image is lent with every request and every reply.
abbrev pub answers : List ℕ → Round
answers bytes = record { lent = image; event = heard image bytes }

abbrev pub buffer : List ℕ
buffer = replicate 1036 0

pub room : 1036 ≤ length buffer
room = omega (arith, length-replicate {A = ℕ} 1036 0)

abbrev pub attached : Option Id
attached = some (0xC1 ∷ 0x07 ∷ [])

-- A flash to its end: the Info, two Erases, the first Write twice, the second Write, the Verify.
abbrev pub flashed : List Round
flashed = answers informs ∷ answers erased ∷ answers erased ∷ answers mismatched ∷ answers wrote ∷ answers wrote
    ∷ answers verified ∷ []

-- The flash above as events, then failed links, up to its bound of 38: 1 for the Info, 2 Erases, 17 for each of 2
-- Writes, and 1 for the Verify.
abbrev flashing : List Event
flashing =
    heard image informs ∷ heard image erased ∷ heard image erased ∷ heard image mismatched ∷ heard image wrote
    ∷ heard image wrote ∷ heard image verified ∷ replicate 31 failed

pub flash-in-order-met : Flashed 5 (play (flash 5) flashing []).0 (knows device)
unfolding play read_event answer answer_from read read_synced read_sized right_check skipped number check crc_from crc_byte
    crc_bit accepted transact refuse_if inform erase_one erase_all erase prepare repeated persist write_within offsets
    write_all verify flash each ◌>>=◌ sound informed spans_too_far too_large incompatible key padding chunk steps apart
    below erase_addresses info_of
flash-in-order-met = (Condition2.flash-in-order 5 flashing).1

bound-38 : most (flash_most 5) (told (play (flash 5) flashing []).0) ≡ 38
unfolding most flash_most erases_most told told_in told_by play read_event answer answer_from read read_synced read_sized
    right_check skipped number check crc_from crc_byte crc_bit accepted transact refuse_if inform erase_one erase_all erase
    prepare repeated persist write_within offsets write_all verify flash each ◌>>=◌ sound informed spans_too_far too_large
    incompatible key padding chunk steps apart below erase_addresses info_of
bound-38 = refl

pub flash-ends-met : Ended (play (flash 5) flashing []).1
flash-ends-met = (Condition2.flash-ends 5 flashing).ends (rw bound-38 (omega arith))

pub info-ends-met : Ended (play inform_only (heard image informs ∷ []) []).1
info-ends-met = (Condition2.info-ends (heard image informs ∷ [])).ends (omega arith)

bound-3 : most erases_most (told (play erase (heard [] informs ∷ heard [] erased ∷ failed ∷ []) []).0) ≡ 3
unfolding most erases_most told told_in told_by play read_event unanswered answer answer_from read read_synced read_sized
    right_check skipped number check crc_from crc_byte crc_bit accepted transact refuse_if inform erase_one erase_all erase
    each ◌>>=◌ sound informed spans_too_far steps apart below erase_addresses info_of
bound-3 = refl

pub erase-ends-met : Ended (play erase (heard [] informs ∷ heard [] erased ∷ failed ∷ []) []).1
erase-ends-met = (Condition2.erase-ends (heard [] informs ∷ heard [] erased ∷ failed ∷ [])).ends
    (rw bound-3 (omega arith))

pub reset-ends-met : Ended (play (reset true (some 5) true) (heard [] was-reset ∷ []) []).1
reset-ends-met = (Condition2.reset-ends true (some 5) true (heard [] was-reset ∷ [])).ends (omega arith)

-- A client whose second Write is out; its record is an echo and the reply; then the beginning of another frame follows.
abbrev pub writing : Client
writing = turned (resting 255 attached) (Waiting (Demand (Writing 5 (code_info device) 4 0)))

abbrev echoed : List ℕ
echoed = 0xA5 ∷ 0x00 ∷ 0x00 ∷ 0x00 ∷ 0x00 ∷ 0x00 ∷ 0x00 ∷ 0x00 ∷ 0x00 ∷ 0x00 ∷ 0x72 ∷ 0x18 ∷ wrote

pub record-either-way-met : record' writing image (echoed ++ (0xA5 ∷ 0x05 ∷ [])) ≡ record' writing image echoed
unfolding answer answer_from read read_synced read_sized right_check skipped number check crc_from crc_byte crc_bit
record-either-way-met = Condition2.record-either-way writing (Writing 5 (code_info device) 4 0) refl image echoed
    (0xA5 ∷ 0x05 ∷ []) (ok []) 24 refl

pub rest-either-way-met : drop (record' writing image (echoed ++ (0xA5 ∷ 0x05 ∷ []))).rest
    (echoed ++ (0xA5 ∷ 0x05 ∷ [])) ≡ drop (record' writing image echoed).rest echoed ++ (0xA5 ∷ 0x05 ∷ [])
unfolding answer answer_from read read_synced read_sized right_check skipped number check crc_from crc_byte crc_bit
rest-either-way-met = Condition2.rest-either-way writing (Writing 5 (code_info device) 4 0) refl image echoed
    (0xA5 ∷ 0x05 ∷ []) (ok []) 24 refl

-- A Select of the bits 1, 0, 1 with seed 1, and a stray byte after it.
abbrev selects-101 : Frame
selects-101 = record { command = 5; status = 0; flags = 0; address = 0; payload = 0x01 ∷ 0x03 ∷ 0x05 ∷ [] }

pub frame-read-met : read (0xA5 ∷ 0x05 ∷ 0x00 ∷ 0x00 ∷ 0x00 ∷ 0x00 ∷ 0x00 ∷ 0x00 ∷ 0x03 ∷ 0x00 ∷ 0x01 ∷ 0x03 ∷ 0x05
    ∷ 0x4C ∷ 0x56 ∷ 0x99 ∷ []) ≡ whole 0 selects-101
unfolding frame_bytes frame_body frame_head le check crc_from crc_byte crc_bit
frame-read-met =
    Condition2.frame-read selects-101
    (record {
      command = omega arith;
      status = omega arith;
      flags = omega arith;
      address = omega arith;
      payload = (omega arith, (omega arith, (omega arith, tt)));
      short = omega arith;
    })
    (0x99 ∷ [])

-- A Select's reply of no payload: its bytes; then the same with the old check, and a stray byte after it.
abbrev selected : Frame
selected = record { command = 5; status = 1; flags = 0; address = 0; payload = [] }

selected-fits : Fits selected
selected-fits = record {
  command = omega arith;
  status = omega arith;
  flags = omega arith;
  address = omega arith;
  payload = tt;
  short = omega arith;
}

pub selected-bytes : frame_bytes selected
    ≡ 0xA5 ∷ 0x05 ∷ 0x01 ∷ 0x00 ∷ 0x00 ∷ 0x00 ∷ 0x00 ∷ 0x00 ∷ 0x00 ∷ 0x00 ∷ 0x6D ∷ 0x28 ∷ []
unfolding frame_bytes frame_body frame_head le check crc_from crc_byte crc_bit
selected-bytes = refl

abbrev selected-before : List ℕ
selected-before = 0xA5 ∷ 0x05 ∷ 0x01 ∷ 0x00 ∷ 0x00 ∷ 0x00 ∷ 0x00 ∷ 0x00 ∷ 0x00 ∷ 0x00 ∷ 0x6F ∷ 0xCE ∷ 0x99 ∷ []

pub old-frame-read-met : read selected-before ≡ bad_check 0 selected
unfolding frame_body frame_head le check crc_from crc_byte crc_bit
old-frame-read-met = Condition2.old-frame-read selected selected-fits (0x99 ∷ [])

pub old-frame-heard-met : hear selected-before ≡ garble
unfolding frame_body frame_head le check crc_from crc_byte crc_bit
old-frame-heard-met = Condition2.old-frame-heard selected selected-fits (0x99 ∷ [])
