-- The exported calls, one after the other: what each leaves in its buffers, its code, and the client's own answer.
use Rattle.std.specs.Prelude.{ℕ, ◌<◌, ◌≤◌, ◌^◌, List, [], ◌∷◌, ◌≡◌, length, drop}
use Rattle.std.proofs.Math.Option.{none, some}
use Rattle.paper.specs.Frame.{byte, field}
use Rattle.paper.proofs.Words.{Bytes}
use Rattle.client.specs.declared.Client.{Client}
use Rattle.client.specs.declared.Started.{Started}
use Rattle.client.specs.declared.Told.{Told}
use Rattle.client.specs.Numbers.{says_of}
use Rattle.client_start.specs.Start as CodeStart
use Rattle.client_request.specs.Request as CodeRequest
use Rattle.client_record.specs.Record as CodeRecord
use Rattle.refinement.specs.Calls.{Call, start_select, start_deselect, start_attach, start_discover, start_info, start_erase}
use Rattle.refinement.specs.Calls.{start_flash, start_reset, start_set_baud, request, record', link_failed, Good, Answer}
use Rattle.refinement.specs.Calls.{code_answer}
use Rattle.image.specs.InfoBytes.{loaded_info}
use Rattle.host_turn_bytes.specs.TurnBytes.{flagged}
use Rattle.host_state.specs.State as State
use Rattle.host_state.specs.State.{loaded, loaded_id, loaded_table}
use Rattle.host_answer.specs.declared.numbers.Note.{Note}
use Rattle.host_answer.specs.declared.numbers.Gain.{Gain}
use Rattle.host_answer.specs.Numbers.{says_in, progress_in}
use Rattle.host_answer.specs.AnswerBytes as AnswerBytes
use Rattle.host_buffers.specs.Codes.{coded}
use Rattle.host_buffers.specs.Hosts.{Exported, Requested, told_by, leaves, handed}
use Rattle.host_buffers.specs.Exports as Export

-- What the types of the arguments give: the length of an image or a record is below 2 ^ 64; a baud, and the bytes of an
-- image lent with a record, are below 256.
abbrev pub Lent : Call → Type 0
Lent (start_select bytes bits) = Unit {0}
Lent start_deselect = Unit {0}
Lent (start_attach uid) = Unit {0}
Lent (start_discover given) = Unit {0}
Lent start_info = Unit {0}
Lent start_erase = Unit {0}
Lent (start_flash image) = length image < 2 ^ 64
Lent (start_reset bootloader in_boot) = Unit {0}
Lent (start_set_baud baud bootloader in_boot) = baud < 256
Lent (request image buffer) = length image < 2 ^ 64
Lent (record' image bytes) = ((length image < 2 ^ 64) × Bytes image) × (length bytes < 2 ^ 64)
Lent link_failed = Unit {0}

-- The request buffer lent to a call; empty for a call without one.
abbrev pub buffer_of : Call → List ℕ
buffer_of (start_select bytes bits) = []
buffer_of start_deselect = []
buffer_of (start_attach uid) = []
buffer_of (start_discover given) = []
buffer_of start_info = []
buffer_of start_erase = []
buffer_of (start_flash image) = []
buffer_of (start_reset bootloader in_boot) = []
buffer_of (start_set_baud baud bootloader in_boot) = []
buffer_of (request image buffer) = buffer
buffer_of (record' image bytes) = []
buffer_of link_failed = []

-- What a call without a request buffer leaves.
abbrev pub bufferless : Exported → Requested
bufferless e = handed e []

-- What the exported function of a call leaves in the state s, the answer's buffer a and the request buffer.
unfoldable pub exported : List ℕ → List ℕ → Call → Requested
exported s a (start_select bytes bits) = bufferless (Export.start_select s bytes bits a)
exported s a start_deselect = bufferless (Export.start_deselect s a)
exported s a (start_attach none) = bufferless (Export.start_attach s a)
exported s a (start_attach (some bytes)) = bufferless (Export.start_attach_to s bytes a)
exported s a (start_discover given) = bufferless (Export.start_discover s given a)
exported s a start_info = bufferless (Export.start_info s a)
exported s a start_erase = bufferless (Export.start_erase s a)
exported s a (start_flash image) = bufferless (Export.start_flash s image a)
exported s a (start_reset bootloader in_boot) = bufferless (Export.start_reset s bootloader in_boot a)
exported s a (start_set_baud baud bootloader in_boot) = bufferless (Export.start_set_baud s baud bootloader in_boot a)
exported s a (request image buffer) = Export.request s image buffer a
exported s a (record' image bytes) = bufferless (Export.record' s image bytes a)
exported s a link_failed = bufferless (Export.link_failed s a)

-- A call, with the buffer lent for its answer.
pub record Lending : Type 0 where
  pub call : Call
  pub answer : List ℕ

-- What is asked of a call: byte arguments, lengths as the types give them, and room for the answer.
pub record Fair (x : Lending) : Type 0 where
  pub bytes : Good x.call
  pub lengths : Lent x.call
  pub room : AnswerBytes.size ≤ length x.answer

-- One call after the other: each gets the state that the one before left.
unfoldable pub exports : List ℕ → List Lending → List Requested
exports s [] = []
exports s (x ∷ xs) = exported s x.answer x.call ∷ exports (exported s x.answer x.call).state xs

-- The state after them.
unfoldable pub state_after : List ℕ → List Lending → List ℕ
state_after s [] = s
state_after s (x ∷ xs) = state_after (exported s x.answer x.call).state xs

-- The client's own answer to a call, and the request buffer after it.
pub record Made : Type 0 where
  pub told : Told
  pub buffer : List ℕ

abbrev started_by : Started → Made
started_by s = record { told = told_by s; buffer = [] }

abbrev asked_by : CodeRequest.Asking → Made
asked_by x = record { told = told_by x.answer; buffer = x.bytes }

abbrev told_as : Told → Made
told_as t = record { told = t; buffer = [] }

unfoldable pub made : Client → Call → Made
made c (start_select bytes bits) = started_by (CodeStart.start_select c bytes bits)
made c start_deselect = started_by (CodeStart.start_deselect c)
made c (start_attach none) = started_by (CodeStart.start_attach c)
made c (start_attach (some bytes)) = started_by (CodeStart.start_attach_to c bytes)
made c (start_discover given) = started_by (CodeStart.start_discover c given)
made c start_info = started_by (CodeStart.start_info c)
made c start_erase = started_by (CodeStart.start_erase c)
made c (start_flash image) = started_by (CodeStart.start_flash c image)
made c (start_reset bootloader in_boot) = started_by (CodeStart.start_reset c bootloader in_boot)
made c (start_set_baud baud bootloader in_boot) = started_by (CodeStart.start_set_baud c baud bootloader in_boot)
made c (request image buffer) = asked_by (CodeRequest.request c image buffer)
made c (record' image bytes) = told_as (CodeRecord.record' c image bytes)
made c link_failed = told_as (CodeRecord.link_failed c)

-- The buffers after a call with this answer.
unfoldable pub held : List ℕ → List ℕ → Made → Requested
held s a m = handed (leaves m.told s a) m.buffer

-- What some calls leave, one after the other, from the state and the client reached so far.
unfoldable pub held_by : List ℕ → Client → List Lending → List Requested
held_by s c [] = []
held_by s c (x ∷ xs) = held s x.answer (made c x.call)
    ∷ held_by (held s x.answer (made c x.call)).state (made c x.call).told.client xs

-- An answer read as document 01's, with the seed and the attached id after it.
unfoldable pub read_as : Made → Answer
read_as m = code_answer (
  record {
    says = says_of m.told.says m.told.progress m.told.id m.told.found;
    rest = m.told.rest;
    buffer = m.buffer;
  },
  m.told.client,
)

-- What a host reads in an answer's bytes.
unfoldable pub loaded_note : List ℕ → Note
loaded_note b = record {
  number = byte 0 b;
  says = byte 1 b;
  outcome = byte 2 b;
  heard = byte 3 b;
  any = flagged (byte 4 b);
  key = flagged (byte 6 b);
  length = field 16 8 b;
  first = field 40 4 b;
  second = field 44 4 b;
  info = loaded_info 48 b;
}

unfoldable pub loaded_gain : List ℕ → Gain
loaded_gain b = record { made = flagged (byte 5 b); done = field 24 8 b; total = field 32 8 b }

-- What a host reads in everything that a call leaves.
unfoldable pub read_from : Requested → Answer
read_from e = code_answer (
  record {
    says = says_of (says_in (loaded_note e.answer)) (progress_in (loaded_gain e.answer)) (loaded_id 66 e.answer)
        (loaded_table 83 e.answer);
    rest = field 8 8 e.answer;
    buffer = e.buffer;
  },
  loaded e.state,
)

-- The code is made of the number and the length in the answer.
abbrev pub Coded : Requested → Type 0
Coded e = e.code ≡ coded (byte 0 e.answer) (field 16 8 e.answer)

-- The bytes after the state and after the answer.
abbrev pub behind : Requested → List ℕ × List ℕ
behind e = (drop State.size e.state, drop AnswerBytes.size e.answer)
