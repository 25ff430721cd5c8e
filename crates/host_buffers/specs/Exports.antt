-- Each exported call as a function of its buffers and arguments, in the header's order: its code, and every byte after
-- it. The contracts of `fahireky` and the promises about the exports both cite these.
use Rattle.std.specs.Prelude.{ℕ, Bool, List, length}
use Rattle.paper.specs.Answers.{key}
use Rattle.paper.specs.Frame.{crc_from}
use Rattle.paper.specs.Hearing as PaperHearing
use Rattle.paper.specs.Text as PaperText
use Rattle.text.specs.Texts.{written, parsed}
use Rattle.image.specs.Images.{shown_key}
use Rattle.hearing.specs.Heard.{shown_heard}
use Rattle.client_start.specs.Start as CodeStart
use Rattle.client_record.specs.Record as CodeRecord
use Rattle.host_buffers.specs.Codes.{Coded, writes, read_uid, key_code, rest_from}
use Rattle.host_state.specs.State as State
use Rattle.host_answer.specs.AnswerBytes as AnswerBytes
use Rattle.host_buffers.specs.Hosts.{Exported, Requested, starts, tells, requests, views, hears_out}

abbrev pub state_size : ℕ
state_size = State.size

abbrev pub answer_size : ℕ
answer_size = AnswerBytes.size

abbrev pub start_select : (state prefix : List ℕ) (bits : ℕ) (answer : List ℕ) → Exported
start_select s prefix bits a = starts (λ c. CodeStart.start_select c prefix bits) s a

abbrev pub start_deselect : (state answer : List ℕ) → Exported
start_deselect s a = starts CodeStart.start_deselect s a

abbrev pub start_attach : (state answer : List ℕ) → Exported
start_attach s a = starts CodeStart.start_attach s a

abbrev pub start_attach_to : (state prefix answer : List ℕ) → Exported
start_attach_to s prefix a = starts (λ c. CodeStart.start_attach_to c prefix) s a

abbrev pub start_discover : (state prefix answer : List ℕ) → Exported
start_discover s prefix a = starts (λ c. CodeStart.start_discover c prefix) s a

abbrev pub start_info : (state answer : List ℕ) → Exported
start_info s a = starts CodeStart.start_info s a

abbrev pub start_erase : (state answer : List ℕ) → Exported
start_erase s a = starts CodeStart.start_erase s a

abbrev pub start_flash : (state image answer : List ℕ) → Exported
start_flash s image a = starts (λ c. CodeStart.start_flash c image) s a

abbrev pub start_reset : (state : List ℕ) (bootloader in_boot : Bool) (answer : List ℕ) → Exported
start_reset s bootloader in_boot a = starts (λ c. CodeStart.start_reset c bootloader in_boot) s a

abbrev pub start_set_baud : (state : List ℕ) (baud : ℕ) (bootloader in_boot : Bool) (answer : List ℕ) → Exported
start_set_baud s baud bootloader in_boot a = starts (λ c. CodeStart.start_set_baud c baud bootloader in_boot) s a

abbrev pub request : (state image buffer answer : List ℕ) → Requested
request s image buffer a = requests image s buffer a

abbrev pub record' : (state image bytes answer : List ℕ) → Exported
record' s image bytes a = tells (λ c. CodeRecord.record' c image bytes) s a

abbrev pub link_failed : (state answer : List ℕ) → Exported
link_failed s a = tells CodeRecord.link_failed s a

abbrev pub attached : (state answer : List ℕ) → Coded
attached s a = views s a

abbrev pub hear : (bytes answer : List ℕ) → Coded
hear bytes a = hears_out (shown_heard (PaperHearing.hear bytes)) a

abbrev pub rest : (bytes : List ℕ) (place : ℕ) → ℕ
rest bytes place = rest_from (length bytes) place

abbrev pub uid_hex : (id text : List ℕ) → Coded
uid_hex id text = writes (written id text)

abbrev pub parse_uid : (text id : List ℕ) → Coded
parse_uid text id = read_uid (parsed (PaperText.parse_uid text)) id

abbrev pub image_compat : (image : List ℕ) → ℕ
image_compat image = key_code (shown_key (key image))

abbrev pub crc16 : (start : ℕ) (bytes : List ℕ) → ℕ
crc16 start bytes = crc_from start bytes
