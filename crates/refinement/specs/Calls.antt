-- Any calls in any order: the code's answers, and document 01's.
use Rattle.std.specs.Prelude as Std
use Rattle.std.specs.Prelude.{ℕ, ◌<◌, Bool, cond, List, [], ◌∷◌, ◌≡◌}
use Rattle.std.proofs.Math.Option.{Option, none, some}
use Rattle.paper.specs.Client as Paper
use Rattle.paper.specs.Hearing.{Id}
use Rattle.paper.proofs.Words.{Bytes}
use Rattle.theory.specs.ClientMachine.{OfAny, Brief}
use Rattle.ids.specs.Ids.{id_of, no_id}
use Rattle.walk_table.specs.Rows.{no_table}
use Rattle.client.specs.declared.Client.{Client}
use Rattle.client.specs.declared.Started.{Started}
use Rattle.client.specs.declared.Told.{Told}
use Rattle.client.specs.Numbers.{says_of}
use Rattle.client_start.specs.Start as CodeStart
use Rattle.client_request.specs.Request as CodeRequest
use Rattle.client_record.specs.Record as CodeRecord
use Rattle.refinement.specs.ClientServed.{resting}

-- Each start with its arguments; a request with the image and the buffer lent; a record with the image lent and its
-- bytes; a failed link.
pub data Call : Type 0 where
  start_select : Id → ℕ → Call
  start_deselect : Call
  start_attach : Option Id → Call
  start_discover : Id → Call
  start_info : Call
  start_erase : Call
  start_flash : List ℕ → Call
  start_reset : Bool → Bool → Call
  start_set_baud : ℕ → Bool → Bool → Call
  request : List ℕ → List ℕ → Call
  record' : List ℕ → List ℕ → Call
  link_failed : Call

-- The prefix or the record of the call consists of bytes. Nothing is required of an image, a buffer or a baud.
abbrev pub Good : Call → Type 0
Good (start_select bytes bits) = Bytes bytes
Good start_deselect = Unit {0}
Good (start_attach uid) = OfAny Bytes uid
Good (start_discover given) = Bytes given
Good start_info = Unit {0}
Good start_erase = Unit {0}
Good (start_flash image) = Unit {0}
Good (start_reset bootloader in_boot) = Unit {0}
Good (start_set_baud baud bootloader in_boot) = Unit {0}
Good (request image buffer) = Unit {0}
Good (record' image bytes) = Bytes bytes
Good link_failed = Unit {0}

-- The answer to a call, where the unread rest begins, and the buffer after a request.
pub record Reply : Type 0 where
  pub says : Paper.Says
  pub rest : ℕ
  pub buffer : List ℕ

-- Document 01's answer to a call, and its client after it.
abbrev pub said_by : Paper.Told → Reply × Paper.Client
said_by t = (record { says = t.says; rest = t.rest; buffer = [] }, t.client)

abbrev pub asked_of : Paper.Asked → Reply × Paper.Client
asked_of a = (record { says = a.says; rest = 0; buffer = a.buffer }, a.client)

unfoldable pub paper_call : Paper.Client → Call → Reply × Paper.Client
paper_call c (start_select bytes bits) = said_by (Paper.start_select c bytes bits)
paper_call c start_deselect = said_by (Paper.start_deselect c)
paper_call c (start_attach uid) = said_by (Paper.start_attach c uid)
paper_call c (start_discover given) = said_by (Paper.start_discover c given)
paper_call c start_info = said_by (Paper.start_info c)
paper_call c start_erase = said_by (Paper.start_erase c)
paper_call c (start_flash image) = said_by (Paper.start_flash c image)
paper_call c (start_reset bootloader in_boot) = said_by (Paper.start_reset c bootloader in_boot)
paper_call c (start_set_baud baud bootloader in_boot) = said_by (Paper.start_set_baud c baud bootloader in_boot)
paper_call c (request image buffer) = asked_of (Paper.request c image buffer)
paper_call c (record' image bytes) = said_by (Paper.record' c image bytes)
paper_call c link_failed = said_by (Paper.link_failed c)

-- The code's answer to a call, read as document 01's, and its client after it.
abbrev pub started_by : Started → Reply × Client
started_by s = (record { says = says_of s.says Std.None no_id no_table; rest = 0; buffer = [] }, s.client)

abbrev pub asked_by : CodeRequest.Asking → Reply × Client
asked_by a = (
  record { says = says_of a.answer.says Std.None no_id no_table; rest = 0; buffer = a.bytes },
  a.answer.client,
)

abbrev pub told_by : Told → Reply × Client
told_by t = (record { says = says_of t.says t.progress t.id t.found; rest = t.rest; buffer = [] }, t.client)

unfoldable pub code_call : Client → Call → Reply × Client
code_call c (start_select bytes bits) = started_by (CodeStart.start_select c bytes bits)
code_call c start_deselect = started_by (CodeStart.start_deselect c)
code_call c (start_attach none) = started_by (CodeStart.start_attach c)
code_call c (start_attach (some bytes)) = started_by (CodeStart.start_attach_to c bytes)
code_call c (start_discover given) = started_by (CodeStart.start_discover c given)
code_call c start_info = started_by (CodeStart.start_info c)
code_call c start_erase = started_by (CodeStart.start_erase c)
code_call c (start_flash image) = started_by (CodeStart.start_flash c image)
code_call c (start_reset bootloader in_boot) = started_by (CodeStart.start_reset c bootloader in_boot)
code_call c (start_set_baud baud bootloader in_boot) = started_by (CodeStart.start_set_baud c baud bootloader in_boot)
code_call c (request image buffer) = asked_by (CodeRequest.request c image buffer)
code_call c (record' image bytes) = told_by (CodeRecord.record' c image bytes)
code_call c link_failed = told_by (CodeRecord.link_failed c)

-- An answer, with the seed and the attached id after it.
pub record Answer : Type 0 where
  pub reply : Reply
  pub seed : ℕ
  pub id : Option Id

unfoldable pub attached_to : Client → Option Id
attached_to c = cond c.front.attached (some (id_of c.front.id)) none

abbrev pub paper_answer : Reply × Paper.Client → Answer
paper_answer r = record { reply = r.0; seed = r.1.seed; id = r.1.id }

abbrev pub code_answer : Reply × Client → Answer
code_answer r = record { reply = r.0; seed = r.1.front.seed; id = attached_to r.1 }

-- The answers to some calls, one after the other.
unfoldable pub paper_answers : Paper.Client → List Call → List Answer
paper_answers c [] = []
paper_answers c (call ∷ calls) = paper_answer (paper_call c call) ∷ paper_answers (paper_call c call).1 calls

unfoldable pub code_answers : Client → List Call → List Answer
code_answers c [] = []
code_answers c (call ∷ calls) = code_answer (code_call c call) ∷ code_answers (code_call c call).1 calls

-- The client after some calls.
unfoldable pub reached : Client → List Call → Client
reached c [] = c
reached c (call ∷ calls) = reached (code_call c call).1 calls

-- The client has no operation: only a seed and an attached id or none.
pub record Rests (c : Client) : Type 0 where
  pub seed : ℕ
  pub byte : seed < 256
  pub id : Option Id
  pub brief : Brief id
  pub bytes : OfAny Bytes id
  pub client : c ≡ resting seed id
