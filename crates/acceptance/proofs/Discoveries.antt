-- What meets the premises of condition 3, of the calls and of the bench log: discoveries over wires of bytes, lists of
-- calls, and a log.
use Prim.Native.Nat.{ℕ, ◌+◌, ◌-◌, ◌*◌, ◌≤◌}
use mathlib.Core.Bool.{false}
use mathlib.Core.List.{List, [], ◌∷◌, ◌++◌}
use mathlib.Core.Option.{none, some}
use mathlib.Core.Path.{◌≡◌, refl, sym, ◌∙◌, ap}
use native.Mathlib.Omega.{arith}
use lib.ListN.{length, replicate, length-replicate}
use Rattle.paper.specs.Attach.{listen, attach}
use Rattle.paper.specs.Client as Paper
use Rattle.paper.specs.Client.{Says, refused, granted, onward}
use Rattle.paper.specs.Frame.{le, number, crc_bit, crc_byte, crc_from, check, frame_head, frame_body, frame_bytes, skipped}
use Rattle.paper.specs.Frame.{right_check, read_sized, read_synced, read}
use Rattle.paper.specs.Count.{matching, heard_of, honest, All, Pods, selects}
use Rattle.paper.specs.Hearing.{Id, bit, bits_of, counting, begins, before, packed, binary, select_payload, clean, frames}
use Rattle.paper.specs.Hearing.{replies, replies_heard, hear}
use Rattle.paper.specs.Log as Log
use Rattle.paper.specs.Log.{longer, lines, joined, prefix_in, opened, id_lines, shown, output}
use Rattle.paper.specs.Text.{hex_digit, digit, hex_text, unhex}
use Rattle.paper.specs.Talk.{walking, ◌>>=◌}
use Rattle.paper.specs.Walk as Walk
use Rattle.paper.specs.Walk.{long, ask, is_nothing, same_id, is_one, confirm_rest, confirm, keep, judge, walk, insert, sort}
use Rattle.paper.specs.Walk.{discover, done, stopped, run}
use Rattle.paper.proofs.Words.{Bytes}
use Rattle.theory.proofs.walk.OneLength.{discover-exact}
use Rattle.ids.specs.Ids.{id_from}
use Rattle.log_listing.specs.Listing.{text}
use Rattle.log_run.specs.Run as Run
use Rattle.log_feed.specs.FeedMachine.{begun, last_line}
use Rattle.log_feed.specs.Pieces.{pieces, concat}
use Rattle.hearing.specs.Heard.{is_long}
use Rattle.hearing.specs.Heard.{one_heard}
use Rattle.client.specs.declared.Told.{Told}
use Rattle.client.specs.Clients as Code
use Rattle.client.specs.Clients.{other_image, fresh, idle, running, over}
use Rattle.client_start.specs.Start.{starts, demands, start_select, start_attach_to, start_info}
use Rattle.client_request.specs.Request.{asks, search_frame, frame_of, handing, handed, granting, asked_for, request}
use Rattle.client_record.specs.Record.{probed, hears, answered_to, record', link_failed}
use Rattle.refinement.specs.Calls.{Call, Good, paper_call, code_call, Answer, paper_answers, code_answers, reached, Rests}
use Rattle.refinement.specs.ClientServed.{is_onward, resting, discovered, heard_by, EndsAs, Finds, Lists, devices}
use Rattle.refinement.proofs.wire.DevicesHonest.{pods-honest}
use Rattle.acceptance.proofs.BenchLog as BenchLog
use Rattle.acceptance.proofs.Calls as Calls
use Rattle.acceptance.proofs.Condition3 as Condition3
use Rattle.acceptance.proofs.Instances.{attached}

-- A discovery under the prefix C1 among three ids, two of which match. It starts from seed 250, so that the seed wraps.
abbrev ids : List Id
ids = (0xC1 ∷ 0x87 ∷ []) ∷ (0x00 ∷ 0x01 ∷ []) ∷ (0xC1 ∷ 0x07 ∷ []) ∷ []

abbrev found : List Id
found = (0xC1 ∷ 0x07 ∷ []) ∷ (0xC1 ∷ 0x87 ∷ []) ∷ []

abbrev given : Id
given = 0xC1 ∷ []

abbrev pub select_room : List ℕ
select_room = replicate 31 0

run-honest : run (honest ids) 0 (discover (bits_of given)) ≡ (done found, 15)
unfolding discover run honest heard_of matching sort insert before walk judge keep confirm confirm_rest is_one is_nothing
    ask long Walk.◌>>=◌ bits_of counting bit begins same_id
run-honest = refl

pods : Pods 2 (matching (bits_of given) ids)
unfolding matching begins bits_of counting bit
pods = record {
  few = omega arith;
  distinct = (((λ e. let same : ◌≡◌ {A = ℕ} 0x87 0x07 = cc in absurd (omega arith)), tt), (tt, tt));
  sized = (refl, (refl, tt));
  bytes = ((omega arith, (omega arith, tt)), ((omega arith, (omega arith, tt)), tt));
  within16 = omega arith;
}

-- Summing over all prefixes is too much to compute, so the count is taken from the run.
takes-15 : selects ids 2 (bits_of given) ≡ 15
unfolding bits_of counting bit
takes-15 = ap (λ p. p.1) (sym
    (discover-exact (honest ids) ids 2 (bits_of given) (λ k q l b n. refl) (omega arith) pods) ∙ run-honest)

found-is : sort (matching (bits_of given) ids) ≡ found
unfolding matching begins bits_of counting bit sort insert before
found-is = refl

room₃ : 31 ≤ length select_room
room₃ = omega arith

abbrev discovers : Told × ℕ
discovers = discovered select_room (devices ids) (resting 250 attached) given

pub finds-devices-met : Finds 250 found 15 discovers
finds-devices-met = rw (← found-is, ← takes-15)
    (Condition3.finds-devices select_room room₃ 250 (omega arith) attached (omega arith) given (omega arith)
    (omega arith, tt) ids 2 pods)

pub finds-met : Finds 250 found 15 discovers × (15 ≤ 2 + 2 * (8 * 2 - 8 + 2))
unfolding matching begins bits_of counting bit
finds-met =
    rw (← found-is, ← takes-15)
    (Condition3.finds select_room room₃ 250 (omega arith) attached (omega arith) given (omega arith) (omega arith, tt)
    (devices ids) ids 2 (pods-honest ids 2 250 (bits_of given) pods) pods)

pub ends-within-met : (is_onward discovers.0.says ≡ false) × (discovers.1 ≤ 31332)
unfolding bits_of counting
ends-within-met = Condition3.ends-within select_room room₃ 250 (omega arith) attached (omega arith) given (omega arith)
    (omega arith, tt) (devices ids)

-- A wire that only returns garble: at 128 bits the discovery ends with 12, and the attached id stays.
unclear : run (heard_by (λ k bytes. 0 ∷ []) 250) 0 (discover (bits_of given)) ≡ (stopped 12, 121)
unfolding heard_by discover run walk judge ask long is_nothing Walk.◌>>=◌ bits_of counting bit hear frames clean read
    read_synced skipped
unclear = refl

pub ends-as-met : EndsAs 250 attached (stopped 12, 121)
    (discovered select_room (λ k bytes. 0 ∷ []) (resting 250 attached) given)
ends-as-met = rw (← unclear) (Condition3.ends_as select_room room₃ 250 (omega arith) attached (omega arith) given
    (omega arith) (omega arith, tt) (λ k bytes. 0 ∷ []))

pub lists-met : Lists (bits_of given) discovers
lists-met = Condition3.lists select_room room₃ 250 (omega arith) attached (omega arith) given (omega arith)
    (omega arith, tt) (devices ids) finds-devices-met.says

-- Two lists of calls that end with no operation running, each with one Select sent: a plain select that hears an id,
-- and an attach whose link fails, with calls out of turn.
abbrev tells-id : List ℕ
tells-id = 0xA5 ∷ 0x05 ∷ 0x01 ∷ 0x00 ∷ 0x00 ∷ 0x00 ∷ 0x00 ∷ 0x00 ∷ 0x02 ∷ 0x00 ∷ 0xC1 ∷ 0x07 ∷ 0xAE ∷ 0x8A ∷ []

abbrev selected : List Call
selected = Call.start_select (0x05 ∷ []) 3 ∷ Call.request [] select_room ∷ Call.record' [] tells-id ∷ []

abbrev unattached : List Call
unattached = Call.start_attach (some (0xC1 ∷ [])) ∷ Call.start_info ∷ Call.request [] select_room ∷ Call.link_failed
    ∷ Call.record' [] tells-id ∷ []

tells-bytes : Bytes tells-id
tells-bytes = (
  omega arith,
  (
    omega arith,
    (
      omega arith,
      (
        omega arith,
        (
          omega arith,
          (
            omega arith,
            (
              omega arith,
              (
                omega arith,
                (omega arith, (omega arith, (omega arith, (omega arith, (omega arith, (omega arith, tt)))))),
              ),
            ),
          ),
        ),
      ),
    ),
  ),
)

selected-good : All Good selected
selected-good = ((omega arith, tt), (tt, (tells-bytes, tt)))

unattached-good : All Good unattached
unattached-good = ((omega arith, tt), (tt, (tt, (tt, (tells-bytes, tt)))))

selected-rests : reached fresh selected ≡ resting 1 none
unfolding reached code_call fresh start_select starts request asked_for granting search_frame frame_of handing handed asks
    frame_bytes frame_body frame_head le other_image record' answered_to hears probed is_long over idle one_heard hear
    frames clean replies replies_heard read read_synced read_sized right_check skipped number check crc_from crc_byte crc_bit
    select_payload bits_of counting bit packed binary running id_from
selected-rests = refl

unattached-rests : reached fresh unattached ≡ resting 1 none
unfolding reached code_call fresh start_attach_to start_info demands starts request asked_for granting search_frame frame_of
    handing handed asks frame_bytes frame_body frame_head le other_image record' link_failed over idle select_payload bits_of
    counting bit packed binary running id_from
unattached-rests = refl

pub idle-canonical-met : reached fresh selected ≡ reached fresh unattached
idle-canonical-met =
    Calls.idle-canonical selected unattached selected-good unattached-good (ap (λ c. c.front.turn) selected-rests)
    (ap (λ c. c.front.turn) unattached-rests)
    (ap (λ c. c.front.seed) selected-rests ∙ sym (ap (λ c. c.front.seed) unattached-rests))
    (ap (λ c. Code.known (Code.attached c)) selected-rests
    ∙ sym (ap (λ c. Code.known (Code.attached c)) unattached-rests))

pub idle-rests-met : Rests (reached fresh unattached)
idle-rests-met = Condition3.idle-rests unattached unattached-good (ap (λ c. c.front.turn) unattached-rests)

-- Document 01's answer to each call of the second list: the attach goes on; 21; the Select of C1's bits with seed 1; 1;
-- 21.
abbrev answered : Says → ℕ → List ℕ → ℕ → Answer
answered says rest buffer seed =
    record { reply = record { says = says; rest = rest; buffer = buffer }; seed = seed; id = none }

abbrev select-C1 : List ℕ
select-C1 = 0xA5 ∷ 0x05 ∷ 0x00 ∷ 0x00 ∷ 0x00 ∷ 0x00 ∷ 0x00 ∷ 0x00 ∷ 0x03 ∷ 0x00 ∷ 0x01 ∷ 0x08 ∷ 0xC1 ∷ 0x7E ∷ 0x13 ∷ []

pub agree-met :
    code_answers fresh unattached
    ≡ answered (onward none) 0 [] 0 ∷ answered (refused 21 []) 0 [] 0
    ∷ answered (granted 15) 0 (select-C1 ++ replicate 16 0) 1 ∷ answered (refused 1 []) 0 [] 1
    ∷ answered (refused 21 []) 0 [] 1 ∷ []
unfolding paper_answers paper_call Paper.fresh Paper.start_attach Paper.start_with Paper.start_info Paper.request
    Paper.grant Paper.handed_out Paper.link_failed Paper.record' Paper.proceed Paper.bytes_of attach listen walking ◌>>=◌
    ask frame_bytes frame_body frame_head le check crc_from crc_byte crc_bit select_payload bits_of counting bit packed binary
agree-met = Calls.agree unattached unattached-good

-- A log with one id, in three pieces: the id is heard at once, it is alone under both bits, and the deselect follows.
abbrev log : List (List ℕ)
log = (48 ∷ 49 ∷ 10 ∷ 97 ∷ 53 ∷ 48 ∷ 53 ∷ [])
    ∷ (48 ∷ 49 ∷ 48 ∷ 48 ∷ 48 ∷ 48 ∷ 48 ∷ 48 ∷ 48 ∷ 48 ∷ 48 ∷ 48 ∷ 48 ∷ 49 ∷ 48 ∷ 48 ∷ 99 ∷ 49 ∷ 51 ∷ 55 ∷ 51 ∷ 54
    ∷ 10 ∷ 10 ∷ 97 ∷ 53 ∷ 48 ∷ 53 ∷ 48 ∷ 49 ∷ 48 ∷ 48 ∷ 48 ∷ [])
    ∷ (48 ∷ 10 ∷ 48 ∷ 48 ∷ 48 ∷ 48 ∷ 48 ∷ 48 ∷ 48 ∷ 49 ∷ 48 ∷ 48 ∷ 99 ∷ 49 ∷ 51 ∷ 55 ∷ 51 ∷ 54 ∷ 10 ∷ 10 ∷ 10 ∷ 10
    ∷ []) ∷ []

pub writes-met : text (Run.answer
    (last_line (pieces (record { log = begun; bytes = replicate 4096 0 }) log)).log.replay)
    ≡ 99 ∷ 49 ∷ 10 ∷ 48 ∷ 48 ∷ 48 ∷ 49 ∷ 48 ∷ 48 ∷ 48 ∷ 52 ∷ 10 ∷ []
unfolding output opened lines longer joined unhex digit prefix_in Log.over_records discover walk judge keep confirm
    confirm_rest is_one is_nothing ask long Walk.◌>>=◌ shown id_lines hex_text hex_digit hear frames clean replies
    replies_heard read read_synced read_sized right_check skipped number check crc_from crc_byte crc_bit bits_of counting bit
    begins same_id concat sort insert before
writes-met = BenchLog.writes log (replicate 4096 0) (length-replicate {A = ℕ} 4096 0)
