-- What meets the premises of the driven client: each operation, driven over rounds to its end or to its next request.
use Prim.Native.Nat.{ℕ}
use mathlib.Core.Bool.{true, false}
use mathlib.Core.List.{List, [], ◌∷◌, ◌++◌}
use mathlib.Core.Option.{Option, none, some}
use mathlib.Core.Path.{◌≡◌, refl, ◌∙◌}
use native.Mathlib.Omega.{arith}
use lib.ListN.{replicate}
use Rattle.paper.specs.Answers.{answer_from, answer, sound, informed, spans_too_far, too_large, incompatible, key, chunk}
use Rattle.paper.specs.Answers.{padding, steps, apart, below, erase_addresses}
use Rattle.paper.specs.Attach.{listen, select_only, deselect, met, attach, discover}
use Rattle.paper.specs.Client as Paper
use Rattle.paper.specs.Client.{Says, refused, closing, over, id_after, payload_of, bytes_of, proceed, start_with, grant}
use Rattle.paper.specs.Client.{handed_out}
use Rattle.paper.specs.Flash.{accepted, transact, refuse_if, inform, erase_one, erase_all, prepare, repeated, persist}
use Rattle.paper.specs.Flash.{write_within, offsets, write_all, verify, inform_only, erase, flash, reset}
use Rattle.paper.specs.Frame.{Frame, le, frame_head, frame_body, frame_bytes, number, crc_bit, crc_byte, crc_from, check}
use Rattle.paper.specs.Frame.{skipped, right_check, read_sized, read_synced, read, info_of}
use Rattle.paper.specs.Count.{All}
use Rattle.paper.specs.Hearing.{Id, one, bits_of, counting, clean, frames, replies, replies_heard, hear}
use Rattle.paper.specs.Talk.{◌>>=◌, each, walking, quiet, heard, attached, found, knows}
use Rattle.paper.specs.Walk as Walk
use Rattle.paper.specs.Walk.{long, judge, walk, sort, nobody}
use Rattle.paper.proofs.Words.{Bytes}
use Rattle.theory.specs.ClientDriven as ClientDriven
use Rattle.theory.specs.ClientDriven.{Round, Sent, goes_on, Lends, size_of, seed_over, id_over, rest_after, brought, success}
use Rattle.theory.specs.FlashOrder as Order
use Rattle.theory.specs.FlashOrder.{failed, unanswered, read_event, play, carried}
use Rattle.theory.specs.HandedOut.{written, Hands, Passes, Cleared, FlashOrder}
use Rattle.client.specs.declared.Started.{Started}
use Rattle.client.specs.declared.Told.{Told}
use Rattle.client_start.specs.Start.{start_select, start_deselect, start_attach, start_attach_to, start_discover, start_info}
use Rattle.client_start.specs.Start.{start_erase, start_flash, start_reset, start_set_baud}
use Rattle.client_request.specs.Request.{request}
use Rattle.refinement.specs.ClientDriven.{driven, sends, answer_of}
use Rattle.refinement.specs.ClientServed.{opening, resting}
use Rattle.acceptance.proofs.Condition2 as Condition2
use Rattle.acceptance.proofs.Instances.{device, informs, erased, wrote, mismatched, verified, was-reset, image}
use Rattle.acceptance.proofs.Instances.{buffer, room, flashed}

-- Rounds in which only these bytes are heard, or the link fails.
abbrev hears : List ℕ → Round
hears bytes = record { lent = []; event = Order.heard [] bytes }

abbrev fails : Round
fails = record { lent = []; event = failed }

-- A reply to a Select, with the id C1 07.
abbrev replied : List ℕ
replied = 0xA5 ∷ 0x05 ∷ 0x01 ∷ 0x00 ∷ 0x00 ∷ 0x00 ∷ 0x00 ∷ 0x00 ∷ 0x02 ∷ 0x00 ∷ 0xC1 ∷ 0x07 ∷ 0xAE ∷ 0x8A ∷ []

-- The client has seed 255 and an attached id.
abbrev id : Option Id
id = some (0xC2 ∷ [])

abbrev drives : (rounds : List Round) → Condition2.Drives buffer room 255 (omega arith) id (omega arith) rounds
drives rounds = Condition2.drives buffer room 255 (omega arith) id (omega arith) rounds

abbrev driving : List Round → Started → Told
driving rounds s = driven buffer rounds (opening s)

-- The last answer, the place where the unread rest begins, and the seed and attached id left with no operation running.
pub record Ends (says : Says) (rest seed : ℕ) (id : Option Id) (t : Told) : Type 0 where
  pub answer : answer_of t ≡ says
  pub unread : t.rest ≡ rest
  pub client : t.client ≡ resting seed id

-- A Select of the bits 1, 0, 1, answered by one pod; the seed wraps.
pub select-met : Ends (over none (heard (one (0xC1 ∷ 0x07 ∷ [])))) 14 0 id
    (driving (hears replied ∷ []) (start_select (resting 255 id) (0x05 ∷ []) 3))
unfolding play brought read_event unanswered rest_after seed_over id_over success id_after select_only listen walking
    Walk.ask long ◌>>=◌ bits_of counting hear frames clean replies replies_heard read read_synced read_sized right_check
    skipped number check crc_from crc_byte crc_bit
select-met =
    let p = ((drives (hears replied ∷ [])).select (0x05 ∷ []) 3 (omega arith) (omega arith)).stands in
    record { answer = p.says; unread = p.rest; client = p.client }

-- A deselect whose sending failed: the seed has advanced, the id stays.
pub deselect-met : Ends (refused 1 []) 0 0 id (driving (fails ∷ []) (start_deselect (resting 255 id)))
unfolding play brought read_event unanswered rest_after seed_over id_over success id_after deselect nobody
deselect-met =
    let p = (drives (fails ∷ [])).deselect.stands in
    record { answer = p.says; unread = p.rest; client = p.client }

-- Garble, as when two pods answer at once: a deselect, then 8, with no id attached.
pub attach-met : Ends (refused 8 []) 0 1 none (driving (hears (0 ∷ []) ∷ hears [] ∷ []) (start_attach (resting 255 id)))
unfolding play brought read_event unanswered rest_after seed_over id_over success id_after attach met deselect nobody listen
    walking Walk.ask long ◌>>=◌ hear frames clean replies replies_heard read read_synced read_sized right_check skipped
    number check crc_from crc_byte crc_bit
attach-met =
    let p = (drives (hears (0 ∷ []) ∷ hears [] ∷ [])).attach.stands in
    record { answer = p.says; unread = p.rest; client = p.client }

pub attach-to-met : Ends (over none (attached (some (0xC1 ∷ 0x07 ∷ [])))) 14 0 (some (0xC1 ∷ 0x07 ∷ []))
    (driving (hears replied ∷ []) (start_attach_to (resting 255 id) (0xC1 ∷ [])))
unfolding play brought read_event unanswered rest_after seed_over id_over success id_after attach met listen walking
    Walk.ask long ◌>>=◌ bits_of counting hear frames clean replies replies_heard read read_synced read_sized right_check
    skipped number check crc_from crc_byte crc_bit
attach-to-met =
    let p = ((drives (hears replied ∷ [])).attach-to (0xC1 ∷ []) (omega arith)).stands in
    record { answer = p.says; unread = p.rest; client = p.client }

-- No reply under the prefix, then the deselect.
pub discover-met : Ends (over none (found [])) 0 1 none
    (driving (hears [] ∷ hears [] ∷ []) (start_discover (resting 255 id) (0xC1 ∷ [])))
unfolding play brought read_event unanswered rest_after seed_over id_over success id_after discover Walk.discover Walk.ask
    walking walk judge long sort nobody Walk.◌>>=◌ ◌>>=◌ bits_of counting hear frames clean replies replies_heard read
    read_synced read_sized right_check skipped number check crc_from crc_byte crc_bit
discover-met =
    let p = ((drives (hears [] ∷ hears [] ∷ [])).discover (0xC1 ∷ []) (omega arith) (omega arith, tt)).stands in
    record { answer = p.says; unread = p.rest; client = p.client }

-- Two bytes after the reply stay unread.
pub info-met : Ends (over none (knows device)) 30 255 id
    (driving (hears (informs ++ (0xA5 ∷ 0x05 ∷ [])) ∷ []) (start_info (resting 255 id)))
unfolding play brought read_event unanswered rest_after seed_over id_over success id_after answer answer_from read read_synced
    read_sized right_check skipped number check crc_from crc_byte crc_bit accepted transact ◌>>=◌ inform inform_only sound
    informed info_of
info-met =
    let p = (drives (hears (informs ++ (0xA5 ∷ 0x05 ∷ [])) ∷ [])).info.stands in
    record { answer = p.says; unread = p.rest; client = p.client }

-- An erase to its end, with the progress of the last Erase; and an erase whose link fails at the second.
pub erase-met : Ends (over (some (8, 6)) (knows device)) 12 255 id
    (driving (hears informs ∷ hears erased ∷ hears erased ∷ []) (start_erase (resting 255 id)))
unfolding play brought read_event unanswered rest_after seed_over id_over success id_after answer answer_from read read_synced
    read_sized right_check skipped number check crc_from crc_byte crc_bit accepted transact ◌>>=◌ refuse_if inform erase_one
    erase_all each sound informed spans_too_far steps apart below erase_addresses info_of erase
erase-met =
    let p = (drives (hears informs ∷ hears erased ∷ hears erased ∷ [])).erase.stands in
    record { answer = p.says; unread = p.rest; client = p.client }

pub erase-lost-met : Ends (refused 1 []) 0 255 id
    (driving (hears informs ∷ hears erased ∷ fails ∷ []) (start_erase (resting 255 id)))
unfolding play brought read_event unanswered rest_after seed_over id_over success id_after answer answer_from read read_synced
    read_sized right_check skipped number check crc_from crc_byte crc_bit accepted transact ◌>>=◌ refuse_if inform erase_one
    erase_all each sound informed spans_too_far steps apart below erase_addresses info_of erase
erase-lost-met =
    let p = (drives (hears informs ∷ hears erased ∷ fails ∷ [])).erase.stands in
    record { answer = p.says; unread = p.rest; client = p.client }

-- The image is lent with every request and every reply, and consists of bytes.
lent : All (Lends (some 5)) flashed
lent = (
  (refl, refl),
  (
    (refl, refl),
    ((refl, refl), ((refl, refl), ((refl, refl), ((refl, refl), ((refl, refl), tt))))),
  ),
)

bytes : All (λ r. Bytes r.lent) flashed
bytes = (b, (b, (b, (b, (b, (b, (b, tt)))))))
  where
    b : Bytes image
    b = (omega arith, (omega arith, (omega arith, (omega arith, (omega arith, tt)))))

pub flash-met : Ends (over none (knows device)) 14 255 id (driving flashed (start_flash (resting 255 id) image))
unfolding play brought read_event unanswered rest_after seed_over id_over success id_after answer answer_from read read_synced
    read_sized right_check skipped number check crc_from crc_byte crc_bit accepted transact ◌>>=◌ refuse_if inform erase_one
    erase_all each sound informed spans_too_far steps apart below erase_addresses info_of prepare repeated persist
    write_within offsets write_all verify flash too_large incompatible key padding chunk
flash-met =
    let p = ((drives flashed).flash image lent).stands in
    record { answer = p.says; unread = p.rest; client = p.client }

-- In boot the reply is awaited; otherwise handing out the 12 bytes ends the operation.
pub reset-met : Ends (over none quiet) 12 255 id
    (driving (hears was-reset ∷ []) (start_reset (resting 255 id) true true))
unfolding play brought read_event unanswered rest_after seed_over id_over success id_after answer answer_from read read_synced
    read_sized right_check skipped number check crc_from crc_byte crc_bit accepted transact ◌>>=◌ reset
reset-met =
    let p = ((drives (hears was-reset ∷ [])).reset true true).stands in
    record { answer = p.says; unread = p.rest; client = p.client }

pub reset-closes-met : Ends (closing 12) 0 255 id (driving (fails ∷ []) (start_reset (resting 255 id) true false))
unfolding play brought read_event unanswered rest_after seed_over id_over success id_after reset size_of carried
reset-closes-met =
    let p = ((drives (fails ∷ [])).reset true false).stands in
    record { answer = p.says; unread = p.rest; client = p.client }

pub set-baud-met : Ends (over none quiet) 12 255 id
    (driving (hears was-reset ∷ []) (start_set_baud (resting 255 id) 5 false true))
unfolding play brought read_event unanswered rest_after seed_over id_over success id_after answer answer_from read read_synced
    read_sized right_check skipped number check crc_from crc_byte crc_bit accepted transact ◌>>=◌ reset
set-baud-met =
    let p = ((drives (hears was-reset ∷ [])).set-baud 5 false true).stands in
    record { answer = p.says; unread = p.rest; client = p.client }

-- The requests of the flash above, as bytes.
abbrev informing : List ℕ
informing = 0xA5 ∷ 0x00 ∷ 0x00 ∷ 0x00 ∷ 0x00 ∷ 0x00 ∷ 0x00 ∷ 0x00 ∷ 0x00 ∷ 0x00 ∷ 0x72 ∷ 0x18 ∷ []

abbrev erasing-0 : List ℕ
erasing-0 = 0xA5 ∷ 0x01 ∷ 0x00 ∷ 0x00 ∷ 0x00 ∷ 0x00 ∷ 0x00 ∷ 0x00 ∷ 0x02 ∷ 0x00 ∷ 0x04 ∷ 0x00 ∷ 0xEA ∷ 0x2D ∷ []

abbrev erasing-4 : List ℕ
erasing-4 = 0xA5 ∷ 0x01 ∷ 0x00 ∷ 0x00 ∷ 0x04 ∷ 0x00 ∷ 0x00 ∷ 0x00 ∷ 0x02 ∷ 0x00 ∷ 0x04 ∷ 0x00 ∷ 0x87 ∷ 0x22 ∷ []

abbrev writing-0 : List ℕ
writing-0 = 0xA5 ∷ 0x02 ∷ 0x00 ∷ 0x00 ∷ 0x00 ∷ 0x00 ∷ 0x00 ∷ 0x00 ∷ 0x04 ∷ 0x00 ∷ 0x10 ∷ 0x21 ∷ 0x32 ∷ 0x43 ∷ 0x6A
    ∷ 0x15 ∷ []

abbrev writing-4 : List ℕ
writing-4 = 0xA5 ∷ 0x02 ∷ 0x00 ∷ 0x01 ∷ 0x04 ∷ 0x00 ∷ 0x00 ∷ 0x00 ∷ 0x04 ∷ 0x00 ∷ 0x54 ∷ 0xFF ∷ 0xFF ∷ 0xFF ∷ 0xB1
    ∷ 0xBC ∷ []

abbrev verifying : List ℕ
verifying = 0xA5 ∷ 0x03 ∷ 0x00 ∷ 0x00 ∷ 0x05 ∷ 0x00 ∷ 0x00 ∷ 0x00 ∷ 0x00 ∷ 0x00 ∷ 0x37 ∷ 0x76 ∷ []

-- After the Info of an erase the first Erase is next. Its buffer is one byte longer, and that byte is kept.
pub erase-next-met : (request (driving (hears informs ∷ []) (start_erase (resting 255 id))).client []
    (replicate 15 0xEE)).bytes ≡ erasing-0 ++ (0xEE ∷ [])
unfolding play brought read_event unanswered rest_after seed_over id_over success id_after answer answer_from read read_synced
    read_sized right_check skipped number check crc_from crc_byte crc_bit accepted transact ◌>>=◌ refuse_if inform erase_one
    erase_all each sound informed spans_too_far steps apart below erase_addresses info_of erase size_of carried bytes_of
    payload_of frame_bytes frame_body frame_head le
erase-next-met = ((drives (hears informs ∷ [])).erase.stands.client.grants [] (replicate 15 0xEE) tt
    (omega arith)).after

-- What the flash hands out, and its answer.
abbrev handed : List Sent
handed = sends buffer flashed (opening (start_flash (resting 255 id) image))

pub flash-handed-met : FlashOrder 5 handed (answer_of (driving flashed (start_flash (resting 255 id) image)))
flash-handed-met = Condition2.flash-handed buffer room 255 (omega arith) id (omega arith) flashed image lent bytes

pub flash-total-met : written handed ≡ 8
unfolding padding
flash-total-met = flash-handed-met.total none device flash-met.answer

-- Its second Write, and everything that was handed out before it.
abbrev then : List ℕ → List ℕ → Sent
then request answer = record { bytes = request; then = some (Order.heard image answer) }

abbrev first-five : List Sent
first-five = then informing informs ∷ then erasing-0 erased ∷ then erasing-4 erased ∷ then writing-0 mismatched
    ∷ then writing-0 wrote ∷ []

handed-is : handed ≡ first-five ++ (then writing-4 wrote ∷ then verifying verified ∷ [])
unfolding ClientDriven.sends goes_on ClientDriven.tells Paper.request Paper.record' grant handed_out proceed start_with
    bytes_of
    payload_of frame_bytes frame_body frame_head le answer answer_from read read_synced read_sized right_check skipped number
    check crc_from crc_byte crc_bit accepted transact ◌>>=◌ refuse_if inform erase_one erase_all each sound informed
    spans_too_far steps apart below erase_addresses info_of prepare repeated persist write_within offsets write_all verify
    flash too_large incompatible key padding chunk
handed-is = ((drives flashed).flash image lent).sent ∙ refl

abbrev second-write : Frame
second-write = record { command = 2; status = 0; flags = 1; address = 4; payload = 0x54 ∷ 0xFF ∷ 0xFF ∷ 0xFF ∷ [] }

second-handed : Hands handed first-five second-write
unfolding read read_synced read_sized right_check skipped number check crc_from crc_byte crc_bit
second-handed = record {
  sent = then writing-4 wrote;
  later = then verifying verified ∷ [];
  cut = handed-is;
  frame = refl;
}

pub flash-cleared-met : Cleared 5 first-five
flash-cleared-met = flash-handed-met.writes first-five second-write second-handed refl

pub flash-address-met : 4 ≡ written first-five
flash-address-met = flash-handed-met.addresses first-five second-write second-handed refl

-- Its first Erase, with only the Info before it.
abbrev first-erase : Frame
first-erase = record { command = 1; status = 0; flags = 0; address = 0; payload = 0x04 ∷ 0x00 ∷ [] }

first-handed : Hands handed (then informing informs ∷ []) first-erase
unfolding read read_synced read_sized right_check skipped number check crc_from crc_byte crc_bit
first-handed = record {
  sent = then erasing-0 erased;
  later = then erasing-4 erased ∷ then writing-0 mismatched ∷ then writing-0 wrote ∷ then writing-4 wrote
      ∷ then verifying verified ∷ [];
  cut = handed-is;
  frame = refl;
}

pub flash-passes-met : Passes 5 (then informing informs ∷ [])
flash-passes-met = flash-handed-met.erases (then informing informs ∷ []) first-erase first-handed refl
