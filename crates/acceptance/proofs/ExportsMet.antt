-- What meets the premises of the exported calls' promises: an attach under C1 whose link fails, with calls out of turn,
-- on buffers of zeros; and refusals. These are for a state that no call could leave, buffers that are too short, an id
-- of 17 bytes, and a text of one digit.
use Prim.Native.Nat.{ℕ, ◌%◌, ◌≤◌}
use mathlib.Core.Bool.{true}
use mathlib.Core.List.{List, [], ◌∷◌, ◌++◌, map}
use mathlib.Core.Option.{none, some}
use mathlib.Core.Path.{◌≡◌, refl, ◌∙◌, ap}
use native.Mathlib.Omega.{arith}
use lib.ListN.{length, drop, replicate, length-replicate}
use Rattle.paper.specs.Attach.{listen, attach}
use Rattle.paper.specs.Client as Paper
use Rattle.paper.specs.Client.{Says, refused, granted, onward}
use Rattle.paper.specs.Count.{All}
use Rattle.paper.specs.Frame.{le, crc_bit, crc_byte, crc_from, check, frame_head, frame_body, frame_bytes}
use Rattle.paper.specs.Hearing.{bit, bits_of, counting, packed, binary, select_payload}
use Rattle.paper.specs.Talk.{walking, ◌>>=◌}
use Rattle.paper.specs.Text.{uid_hex, parse_uid, unhex}
use Rattle.paper.specs.Walk.{ask}
use Rattle.lore.proofs.Choice.{either}
use Rattle.text.specs.Texts.{written, parsed}
use Rattle.client.specs.declared.Started.{Started}
use Rattle.client.specs.Clients.{running}
use Rattle.client.specs.Numbers.{number_of, changes_no_state}
use Rattle.client_start.specs.Start as Code
use Rattle.refinement.specs.Calls.{Call, start_attach, start_discover, start_info, request, record', link_failed, paper_call}
use Rattle.refinement.specs.Calls.{Answer, paper_answers}
use Rattle.host_answer.specs.AnswerBytes as AnswerBytes
use Rattle.host_state.specs.State as State
use Rattle.host_state.specs.State.{loaded}
use Rattle.host_answer.specs.Numbers.{note_of, refusal_note, refusing}
use Rattle.host_buffers.specs.Codes.{coded, written_code, writes, read_uid}
use Rattle.host_buffers.specs.Hosts.{code_of, Requested, told_by, leaves, handed}
use Rattle.host_buffers.specs.Exports as Export
use Rattle.host_theory.specs.ExportedCalls.{exported, made, held, Lending, Fair, exports, read_from, Coded, behind}
use Rattle.host_theory.proofs.CallsChain.{exported-held}
use Rattle.acceptance.proofs.Exports.{exports-agree, exports-coded, exports-behind, refused-untouched}
use Rattle.acceptance.proofs.Exports.{short-untouched, text-untouched, id-untouched}

abbrev lending : Call → Lending
lending call = record { call = call; answer = replicate 1200 0 }

abbrev calls : List Lending
calls = lending (start_attach (some (0xC1 ∷ []))) ∷ lending start_info ∷ lending (request [] (replicate 31 0))
    ∷ lending link_failed ∷ lending (record' [] (0xA5 ∷ [])) ∷ []

room : AnswerBytes.size ≤ length {A = ℕ} (replicate 1200 0)
room = omega (arith, length-replicate {A = ℕ} 1200 0)

fair : All Fair calls
fair = (
  record { bytes = (omega arith, tt); lengths = tt; room = room },
  (
    record { bytes = tt; lengths = tt; room = room },
    (
      record { bytes = tt; lengths = omega arith; room = room },
      (
        record { bytes = tt; lengths = tt; room = room },
        (record { bytes = (omega arith, tt); lengths = ((omega arith, tt), omega arith); room = room }, tt),
      ),
    ),
  ),
)

abbrev answered : Says → ℕ → List ℕ → ℕ → Answer
answered says rest buffer seed =
    record { reply = record { says = says; rest = rest; buffer = buffer }; seed = seed; id = none }

-- The answers: the attach goes on; 21; the Select of C1's bits with seed 1, fifteen bytes; 1; 21.
pub exports-agree-met :
    map read_from (exports (replicate State.size 0 ++ (7 ∷ [])) calls)
    ≡ answered (onward none) 0 [] 0
    ∷ answered (refused 21 []) 0 [] 0
    ∷ answered (granted 15) 0 ((0xA5 ∷ 0x05 ∷ 0x00 ∷ 0x00 ∷ 0x00 ∷ 0x00 ∷ 0x00 ∷ 0x00 ∷ 0x03 ∷ 0x00 ∷ 0x01 ∷ 0x08
    ∷ 0xC1 ∷ 0x7E ∷ 0x13 ∷ []) ++ replicate 16 0) 1
    ∷ answered (refused 1 []) 0 [] 1
    ∷ answered (refused 21 []) 0 [] 1
    ∷ []
unfolding paper_answers paper_call Paper.fresh Paper.start_attach Paper.start_with Paper.start_info Paper.request
    Paper.grant Paper.handed_out Paper.link_failed Paper.record' Paper.proceed Paper.bytes_of attach listen walking ◌>>=◌
    ask frame_bytes frame_body frame_head le check crc_from crc_byte crc_bit select_payload bits_of counting bit packed binary
exports-agree-met = exports-agree (7 ∷ []) calls fair

pub exports-coded-met : All Coded (exports (replicate State.size 0 ++ (7 ∷ [])) calls)
exports-coded-met = exports-coded (7 ∷ []) calls fair

pub exports-behind-met : map behind (exports (replicate State.size 0 ++ (7 ∷ [])) calls)
    ≡ map (λ x. (7 ∷ [], drop AnswerBytes.size x.answer)) calls
exports-behind-met = exports-behind (7 ∷ []) calls fair

-- A state that no call could leave: its byte 1, the flag for an attached id, is 2. A discovery under a prefix of 17
-- bytes is refused, whether or not an operation is running.
abbrev odd : List ℕ
odd = 0 ∷ 2 ∷ replicate 1350 0

whole : State.size ≤ length odd
whole = omega (arith, length-replicate {A = ℕ} 1350 0)

refuses-17 : changes_no_state ((exported odd (replicate 1200 0) (start_discover (replicate 17 0))).code % 256) ≡ true
unfolding held handed leaves made told_by Code.start_discover Code.bad_prefix code_of note_of refusal_note refusing number_of
    coded
refuses-17 =
    ap (λ (e : Requested). changes_no_state (e.code % 256))
    (exported-held odd (replicate 1200 0) whole room (start_discover (replicate 17 0)))
    ∙ either (λ (t : Started). changes_no_state (code_of t.says % 256) ≡ true) (running (loaded odd).front.turn) refl refl

pub refused-untouched-met :
    ((exported odd (replicate 1200 0) (start_discover (replicate 17 0))).state ≡ odd)
    × ((exported odd (replicate 1200 0) (start_discover (replicate 17 0))).buffer ≡ [])
refused-untouched-met = refused-untouched odd (replicate 1200 0) (start_discover (replicate 17 0)) refuses-17

pub short-untouched-met :
    ((exported (1 ∷ []) (2 ∷ []) (request [] (3 ∷ []))).state ≡ 1 ∷ [])
    × (((exported (1 ∷ []) (2 ∷ []) (request [] (3 ∷ []))).buffer ≡ 3 ∷ [])
    × ((exported (1 ∷ []) (2 ∷ []) (request [] (3 ∷ []))).answer ≡ 2 ∷ []))
short-untouched-met = short-untouched (1 ∷ []) (2 ∷ []) (request [] (3 ∷ [])) (λ h k. omega arith)

pub text-untouched-met : (Export.uid_hex (replicate 17 0) (7 ∷ [])).bytes ≡ 7 ∷ []
unfolding uid_hex written writes written_code coded
text-untouched-met = text-untouched (replicate 17 0) (7 ∷ []) refused
  where
    refused : (Export.uid_hex (replicate 17 0) (7 ∷ [])).code % 256 ≡ 0 → ⊥
    refused h = omega arith

pub id-untouched-met : (Export.parse_uid (0x30 ∷ []) (7 ∷ [])).bytes ≡ 7 ∷ []
unfolding parse_uid unhex parsed read_uid coded
id-untouched-met = id-untouched (0x30 ∷ []) (7 ∷ []) refused
  where
    refused : (Export.parse_uid (0x30 ∷ []) (7 ∷ [])).code % 256 ≡ 0 → ⊥
    refused h = omega arith
