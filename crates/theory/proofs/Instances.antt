-- Premises can be met: theorems of this crate, applied to values that satisfy their premises.
use Prim.Native.Nat.{ℕ, ◌+◌, ◌*◌, ◌≤◌, ◌<◌}
use mathlib.Core.Bool.{true}
use mathlib.Core.List.{List, [], ◌∷◌, ◌++◌}
use mathlib.Core.Option.{some}
use mathlib.Core.Path.{◌≡◌, refl, ap}
use native.Mathlib.Omega.{arith}
use lib.ListN.{length, take, replicate}
use Rattle.paper.proofs.Words.{Bytes}
use Rattle.paper.proofs.Chunks.{chunk-least}
use Rattle.paper.specs.Answers as Answers
use Rattle.paper.specs.Answers.{ok, answered, answer_from, answer, sound, spans_too_far, steps, apart, below}
use Rattle.paper.specs.Answers.{erase_addresses, chunk}
use Rattle.paper.specs.Client as Paper
use Rattle.paper.specs.Count.{matching, heard_of, honest, All, Distinct, Pods, selects}
use Rattle.paper.specs.Flash.{info_request, transact, inform, erase}
use Rattle.paper.specs.Frame.{le, number, crc_bit, crc_byte, crc_from, check, Frame, whole, bad_check, frame_head, frame_body}
use Rattle.paper.specs.Frame.{frame_check, frame_bytes, skipped, right_check, read_sized, read_synced, read, Info}
use Rattle.paper.specs.Hearing.{Id, Prefix, bit, bits_of, counting, begins, before, one, unaddressed, garble, frames}
use Rattle.paper.specs.Hearing.{replies_heard, hear}
use Rattle.paper.specs.Talk.{return, Answered, knows, ◌>>=◌}
use Rattle.paper.specs.Text.{hex_digit, digit, hex_text, unhex, parse_uid}
use Rattle.paper.specs.Walk as Paper-walk
use Rattle.paper.specs.Walk.{long, ask, is_nothing, same_id, is_one, confirm_rest, confirm, keep, judge, walk, insert, sort}
use Rattle.paper.specs.Walk.{discover, done, run}
use Rattle.theory.specs.ClientMachine as Machine
use Rattle.theory.specs.ClientMachine.{waiting}
use Rattle.theory.specs.FlashOrder.{Checked}
use Rattle.theory.specs.RestKept.{Round, host_run}
use Rattle.theory.specs.WalkMachine.{mine, State, step, start}
use Rattle.theory.specs.PrefixFree.{Apart, own_selects, Sorted}
use Rattle.theory.specs.OperationMachine as OperationMachine
use Rattle.theory.specs.OperationMachine.{demanding}
use Rattle.theory.proofs.frames.CheckParts.{check-fits}
use Rattle.theory.proofs.walk.FindsExactly.{discover-apart}
use Rattle.theory.proofs.walk.StatesFit as StatesFit
use Rattle.theory.proofs.walk.StatesFit.{step_fits, start_fits}
use Rattle.theory.proofs.flash.VerifySucceeds.{verdict, verify-only, verify-if}
use Rattle.theory.proofs.frames.FramesReadBack.{Fits, bytes_take, read-written, written_read, fits_read}
use Rattle.theory.proofs.frames.OldCheckRefused.{checks-differ, old-read, old-heard, old-answered}
use Rattle.theory.proofs.frames.RecordsHeard.{hear-reply, hear-ok, hear-unsupported, hear-other, hear-echo}
use Rattle.theory.proofs.frames.RecordsHeard.{frames-fuel, answer-fuel, answer-reply, answer-echo}
use Rattle.theory.proofs.flash.EraseAddresses.{addresses-fit, capacity-fits, addresses-below}
use Rattle.theory.proofs.client.ClientsFit as ClientsFit
use Rattle.theory.proofs.client.ClientsFit.{turn-sound, record-fits}
use Rattle.theory.proofs.walk.ListedIds.{Listed, kept-listed, kept-distinct}
use Rattle.theory.proofs.walk.MatchingIds.{matching-extends}
use Rattle.theory.proofs.walk.CountAtMost.{own-most, selects-most}
use Rattle.theory.proofs.walk.OneLength.{discover-exact}
use Rattle.theory.proofs.walk.IdOrder.{before-total, before-antisym, before-trans}
use Rattle.theory.proofs.client.UnreadRest.{host-moves}
use Rattle.theory.proofs.walk.SelectsSent.{Sends, discover-sends, discover-alike}
use Rattle.theory.proofs.client.MachineIsClient.{SoundTurn, paper_of, told_of, record-sim}
use Rattle.theory.proofs.frames.TextReadsBack.{lower_case, lower, parse-of-written, written-of-parsed}
use Rattle.theory.proofs.frames.TextReadsBack.{parsed-even, parsed-short, parsed-bytes}

-- "Text \"123456789\" has check 29B1."
pub check-fits-met : check (49 ∷ 50 ∷ 51 ∷ 52 ∷ 53 ∷ 54 ∷ 55 ∷ 56 ∷ 57 ∷ []) < 65536
check-fits-met = check-fits (49 ∷ 50 ∷ 51 ∷ 52 ∷ 53 ∷ 54 ∷ 55 ∷ 56 ∷ 57 ∷ []) (
  omega arith,
  (
    omega arith,
    (
      omega arith,
      (omega arith, (omega arith, (omega arith, (omega arith, (omega arith, (omega arith, tt)))))),
    ),
  ),
)

-- A reply to a Select, with a status and the id C1 07; and a request, which is heard as an echo.
abbrev replying : ℕ → Frame
replying status = record { command = 5; status = status; flags = 0; address = 0; payload = 0xC1 ∷ 0x07 ∷ [] }

replying-fits : (status : ℕ) → status < 256 → Fits (replying status)
replying-fits status h = record {
  command = omega arith;
  status = h;
  flags = omega arith;
  address = omega arith;
  payload = (omega arith, (omega arith, tt));
  short = omega arith;
}

abbrev replied : List ℕ
replied = 0xA5 ∷ 0x05 ∷ 0x01 ∷ 0x00 ∷ 0x00 ∷ 0x00 ∷ 0x00 ∷ 0x00 ∷ 0x02 ∷ 0x00 ∷ 0xC1 ∷ 0x07 ∷ 0xAE ∷ 0x8A ∷ []

replied-bytes : Bytes replied
replied-bytes = (
  omega arith,
  (
    omega arith,
    (
      omega arith,
      (
        omega arith,
        (
          omega arith,
          (
            omega arith,
            (
              omega arith,
              (
                omega arith,
                (omega arith, (omega arith, (omega arith, (omega arith, (omega arith, (omega arith, tt)))))),
              ),
            ),
          ),
        ),
      ),
    ),
  ),
)

abbrev asking : Frame
asking = record { command = 5; status = 0; flags = 0; address = 0; payload = 0x01 ∷ 0x03 ∷ 0x05 ∷ [] }

asking-fits : Fits asking
asking-fits = record {
  command = omega arith;
  status = omega arith;
  flags = omega arith;
  address = omega arith;
  payload = (omega arith, (omega arith, (omega arith, tt)));
  short = omega arith;
}

abbrev asked : List ℕ
asked = 0xA5 ∷ 0x05 ∷ 0x00 ∷ 0x00 ∷ 0x00 ∷ 0x00 ∷ 0x00 ∷ 0x00 ∷ 0x03 ∷ 0x00 ∷ 0x01 ∷ 0x03 ∷ 0x05 ∷ 0x4C ∷ 0x56 ∷ []

pub read-written-met : read (replied ++ (0x99 ∷ [])) ≡ whole 0 (replying 1)
unfolding frame_bytes frame_body frame_head le check crc_from crc_byte crc_bit
read-written-met = read-written (replying 1) (replying-fits 1 (omega arith)) (0x99 ∷ [])

-- The reply between two stray bytes.
abbrev between : List ℕ
between = 0x11 ∷ (replied ++ (0x99 ∷ []))

between-bytes : Bytes between
between-bytes = (
  omega arith,
  (
    omega arith,
    (
      omega arith,
      (
        omega arith,
        (
          omega arith,
          (
            omega arith,
            (
              omega arith,
              (
                omega arith,
                (
                  omega arith,
                  (
                    omega arith,
                    (
                      omega arith,
                      (omega arith, (omega arith, (omega arith, (omega arith, (omega arith, tt))))),
                    ),
                  ),
                ),
              ),
            ),
          ),
        ),
      ),
    ),
  ),
)

between-read : read between ≡ whole 1 (replying 1)
unfolding read read_synced read_sized right_check skipped number check crc_from crc_byte crc_bit
between-read = refl

pub fits-read-met : Fits (replying 1)
fits-read-met = fits_read between between-bytes 1 (replying 1) between-read

pub written-read-met : between ≡ 0x11 ∷ (frame_bytes (replying 1) ++ (0x99 ∷ []))
written-read-met = written_read between between-bytes 1 (replying 1) between-read

pub hear-reply-met : hear replied ≡ replies_heard (replying 1 ∷ [])
unfolding frame_bytes frame_body frame_head le check crc_from crc_byte crc_bit
hear-reply-met = hear-reply (replying 1) (replying-fits 1 (omega arith)) (λ e. absurd (omega arith))

pub hear-ok-met : hear replied ≡ one (0xC1 ∷ 0x07 ∷ [])
unfolding frame_bytes frame_body frame_head le check crc_from crc_byte crc_bit
hear-ok-met = hear-ok (replying 1) (replying-fits 1 (omega arith)) refl

pub hear-unsupported-met : hear (frame_bytes (replying 2)) ≡ unaddressed
hear-unsupported-met = hear-unsupported (replying 2) (replying-fits 2 (omega arith)) refl

pub hear-other-met : hear (frame_bytes (replying 7)) ≡ garble
hear-other-met = hear-other (replying 7) (replying-fits 7 (omega arith)) (omega arith)

pub hear-echo-met : hear (asked ++ replied) ≡ hear replied
unfolding frame_bytes frame_body frame_head le check crc_from crc_byte crc_bit
hear-echo-met = hear-echo asking asking-fits replied refl

-- The same reply with the old check, and a stray byte after it.
abbrev replied-before : List ℕ
replied-before = 0xA5 ∷ 0x05 ∷ 0x01 ∷ 0x00 ∷ 0x00 ∷ 0x00 ∷ 0x00 ∷ 0x00 ∷ 0x02 ∷ 0x00 ∷ 0xC1 ∷ 0x07 ∷ 0xF8 ∷ 0x10
    ∷ 0x99 ∷ []

pub checks-differ-met : 0x10F8 ≡ frame_check (take 12 replied) → ⊥
unfolding check crc_from crc_byte crc_bit
checks-differ-met = checks-differ (take 12 replied) (bytes_take 12 replied replied-bytes) refl

pub old-read-met : read replied-before ≡ bad_check 0 (replying 1)
unfolding frame_body frame_head le check crc_from crc_byte crc_bit
old-read-met = old-read (replying 1) (replying-fits 1 (omega arith)) (0x99 ∷ [])

pub old-heard-met : hear replied-before ≡ garble
unfolding frame_body frame_head le check crc_from crc_byte crc_bit
old-heard-met = old-heard (replying 1) (replying-fits 1 (omega arith)) (0x99 ∷ [])

pub old-answered-met : answer replied-before ≡ answered (Answers.device 3) 14
unfolding frame_body frame_head le check crc_from crc_byte crc_bit
old-answered-met = old-answered (replying 1) (replying-fits 1 (omega arith)) (0x99 ∷ []) (λ e. absurd (omega arith))

pub frames-fuel-met : frames 14 replied ≡ frames 4096 replied
frames-fuel-met = frames-fuel 14 4096 replied (omega arith) (omega arith)

pub answer-fuel-met : answer_from 14 15 (asked ++ replied) ≡ answer_from 4096 15 (asked ++ replied)
answer-fuel-met = answer-fuel 14 4096 15 (asked ++ replied) (omega arith) (omega arith)

pub answer-reply-met : answer (replied ++ (0x99 ∷ [])) ≡ answered (ok (0xC1 ∷ 0x07 ∷ [])) 14
unfolding frame_bytes frame_body frame_head le check crc_from crc_byte crc_bit
answer-reply-met = answer-reply (replying 1) (replying-fits 1 (omega arith)) (0x99 ∷ []) (λ e. absurd (omega arith))

pub answer-echo-met : answer (asked ++ (replied ++ (0x99 ∷ []))) ≡ answered (ok (0xC1 ∷ 0x07 ∷ [])) 29
unfolding frame_bytes frame_body frame_head le check crc_from crc_byte crc_bit
answer-echo-met = rw answer-reply-met at (answer-echo asking asking-fits (replied ++ (0x99 ∷ [])) refl)

-- C1 is before C1 07, and that before C2.
pub before-total-met : before (0xC1 ∷ 0x07 ∷ []) (0xC2 ∷ []) ≡ true
unfolding before
before-total-met = before-total (0xC2 ∷ []) (0xC1 ∷ 0x07 ∷ []) refl

pub before-antisym-met : ◌≡◌ {A = Id} (0xC1 ∷ 0x07 ∷ []) (0xC1 ∷ 0x07 ∷ [])
unfolding before
before-antisym-met = before-antisym (0xC1 ∷ 0x07 ∷ []) (0xC1 ∷ 0x07 ∷ []) refl refl

pub before-trans-met : before (0xC1 ∷ []) (0xC2 ∷ []) ≡ true
unfolding before
before-trans-met = before-trans (0xC1 ∷ []) (0xC1 ∷ 0x07 ∷ []) (0xC2 ∷ []) refl refl

-- A device of capacity 5 and erase_size 2.
abbrev device : Info
device = record {
  capacity = 5;
  erase_size = 2;
  boot_version = 3;
  app_version = 7;
  mode = 1;
  boot_baud = 2;
  compat = 0xFFFFFFFF;
  max_payload = 7;
}

pub addresses-fit-met : All (λ x. x + 2 ≤ 0xFFFFFFFF) (0 ∷ 2 ∷ 4 ∷ [])
unfolding spans_too_far steps apart below erase_addresses
addresses-fit-met = addresses-fit device (omega arith) refl

pub capacity-fits-met : 5 ≤ 0xFFFFFFFF
unfolding spans_too_far steps
capacity-fits-met = capacity-fits device (omega arith) refl

pub addresses-below-met : All (λ x. x < 5) (0 ∷ 2 ∷ 4 ∷ [])
unfolding steps apart below erase_addresses
addresses-below-met = addresses-below device (omega arith)

pub chunk-least-met : 4 ≤ chunk 7
chunk-least-met = chunk-least 7 (omega arith)

-- An image of 5 bytes, and a payload with its check BD87 and one more byte.
abbrev verified : Answered
verified = record { reply = ok (0x87 ∷ 0xBD ∷ 0x00 ∷ []); image = 0x10 ∷ 0x21 ∷ 0x32 ∷ 0x43 ∷ 0x54 ∷ [] }

pub verify-if-met : verdict device verified ≡ return (knows device)
unfolding check crc_from crc_byte crc_bit number
verify-if-met = verify-if device verified
    (record { payload = 0x87 ∷ 0xBD ∷ 0x00 ∷ []; accepted = refl; long = omega arith; right = refl })

pub verify-only-met : Checked verified
verify-only-met = verify-only device verified verify-if-met

-- The texts "c107" and "C107".
pub parse-of-written-met : parse_uid (0x63 ∷ 0x31 ∷ 0x30 ∷ 0x37 ∷ []) ≡ some (0xC1 ∷ 0x07 ∷ [])
unfolding hex_text hex_digit
parse-of-written-met = parse-of-written (0xC1 ∷ 0x07 ∷ []) (omega arith) (omega arith, (omega arith, tt))

abbrev upper : List ℕ
upper = 0x43 ∷ 0x31 ∷ 0x30 ∷ 0x37 ∷ []

upper-parsed : parse_uid upper ≡ some (0xC1 ∷ 0x07 ∷ [])
unfolding parse_uid unhex digit
upper-parsed = refl

pub written-of-parsed-met : hex_text (0xC1 ∷ 0x07 ∷ []) ≡ 0x63 ∷ 0x31 ∷ 0x30 ∷ 0x37 ∷ []
unfolding lower lower_case
written-of-parsed-met = written-of-parsed upper (0xC1 ∷ 0x07 ∷ []) upper-parsed

pub parsed-even-met : ◌≡◌ {A = ℕ} 4 (2 * 2)
parsed-even-met = parsed-even upper (0xC1 ∷ 0x07 ∷ []) upper-parsed

pub parsed-short-met : 4 ≤ 32
parsed-short-met = parsed-short upper (0xC1 ∷ 0x07 ∷ []) upper-parsed

pub parsed-bytes-met : Bytes (0xC1 ∷ 0x07 ∷ [])
parsed-bytes-met = parsed-bytes upper (0xC1 ∷ 0x07 ∷ []) upper-parsed

-- A flash of 5 bytes whose second Write is out, and a record that answers it with Ok.
abbrev target : Info
target = record {
  capacity = 6;
  erase_size = 4;
  boot_version = 3;
  app_version = 7;
  mode = 1;
  boot_baud = 2;
  compat = 0xFFFFFFFF;
  max_payload = 4;
}

abbrev image : List ℕ
image = 0x10 ∷ 0x21 ∷ 0x32 ∷ 0x43 ∷ 0x54 ∷ []

abbrev writing : Machine.Client
writing = record {
  seed = 255;
  id = some (0xC1 ∷ 0x07 ∷ []);
  turn = waiting (demanding (OperationMachine.writing 5 target 4 0));
}

abbrev wrote : List ℕ
wrote = 0xA5 ∷ 0x02 ∷ 0x01 ∷ 0x00 ∷ 0x00 ∷ 0x00 ∷ 0x00 ∷ 0x00 ∷ 0x00 ∷ 0x00 ∷ 0xC6 ∷ 0x99 ∷ []

writing-fits : ClientsFit.Fits writing
unfolding sound
writing-fits = record { seed = omega arith; id = omega arith; turn = refl }

pub turn-sound-met : SoundTurn writing.turn
turn-sound-met = turn-sound writing.turn writing-fits.turn

pub record-sim-met : Paper.record' (paper_of writing) image wrote ≡ told_of (Machine.record' writing image wrote)
record-sim-met = record-sim writing turn-sound-met image wrote

pub record-fits-met : ClientsFit.Fits (Machine.record' writing image wrote).client
record-fits-met = record-fits writing writing-fits image wrote

-- A discovery under C1 that has kept C1 07 and is confirming C1 87 by the child that C1 87 is in.
abbrev confirming : State
confirming = record {
  pre = bits_of (0xC1 ∷ []);
  marks = [];
  ids = (0xC1 ∷ 0x07 ∷ []) ∷ [];
  phase = mine (0xC1 ∷ 0x87 ∷ []);
}

confirming-fits : StatesFit.Fits confirming
unfolding bits_of counting
confirming-fits = record {
  depth = omega arith;
  few = omega arith;
  short = (omega arith, tt);
  held = (omega arith, omega arith);
}

pub step-fits-met : StatesFit.FitsNext (step confirming (one (0xC1 ∷ 0x87 ∷ [])))
step-fits-met = step_fits confirming (one (0xC1 ∷ 0x87 ∷ [])) confirming-fits

pub start-fits-met : StatesFit.FitsNext (start (bits_of (0xC1 ∷ 0x07 ∷ [])))
unfolding bits_of counting
start-fits-met = start_fits (bits_of (0xC1 ∷ 0x07 ∷ [])) (omega arith)

-- Three ids of one length, two of which begin with C1.
abbrev pub ids : List Id
ids = (0xC1 ∷ 0x87 ∷ []) ∷ (0x00 ∷ 0x01 ∷ []) ∷ (0xC1 ∷ 0x07 ∷ []) ∷ []

abbrev pub found : List Id
found = (0xC1 ∷ 0x07 ∷ []) ∷ (0xC1 ∷ 0x87 ∷ []) ∷ []

abbrev pub under : Prefix
under = bits_of (0xC1 ∷ [])

pub pods : Pods 2 (matching under ids)
unfolding matching begins bits_of counting bit
pods = record {
  few = omega arith;
  distinct = (((λ e. let same : ◌≡◌ {A = ℕ} 0x87 0x07 = cc in absurd (omega arith)), tt), (tt, tt));
  sized = (refl, (refl, tt));
  bytes = ((omega arith, (omega arith, tt)), ((omega arith, (omega arith, tt)), tt));
  within16 = omega arith;
}

runs : run (honest ids) 0 (discover under) ≡ (done found, 15)
unfolding discover run honest heard_of matching sort insert before walk judge keep confirm confirm_rest is_one is_nothing
    ask long Paper-walk.◌>>=◌ bits_of counting bit begins same_id
runs = refl

found-is : sort (matching under ids) ≡ found
unfolding matching begins bits_of counting bit sort insert before
found-is = refl

pub discover-exact-met : run (honest ids) 0 (discover under) ≡ (done found, selects ids 2 under)
unfolding bits_of counting
discover-exact-met = rw found-is at (discover-exact (honest ids) ids 2 under (λ k q l b n. refl) (omega arith) pods)

-- One of the three ids does not match: without it the discovery is the same.
pub discover-alike-met : run (honest (matching under ids)) 0 (discover under) ≡ run (honest ids) 0 (discover under)
unfolding honest bits_of counting
discover-alike-met = discover-alike (honest (matching under ids)) (honest ids) under (omega arith)
    (λ k q l e n. ap heard_of (matching-extends under q ids e))

pub discover-sends-met : Sends (λ q. (begins under q ≡ true) × (length q ≤ 128)) (discover under)
unfolding bits_of counting
discover-sends-met = discover-sends under (omega arith)

pub selects-most-met : selects ids 2 under ≤ 22
unfolding matching begins bits_of counting bit
selects-most-met = selects-most ids 2 under pods

pub kept-listed-met : Listed under found
kept-listed-met = kept-listed (honest ids) under found (ap (λ r. r.0) runs)

pub kept-distinct-met : Distinct found × Sorted found × (2 ≤ 64) × All (λ id. length id ≤ 16) found
kept-distinct-met = kept-distinct (honest ids) under found (ap (λ r. r.0) runs)

-- Three ids of different lengths, none a prefix of another.
abbrev uneven : List Id
uneven = (0xC1 ∷ []) ∷ (0xC2 ∷ 0x07 ∷ []) ∷ (0xC3 ∷ 0x07 ∷ 0x01 ∷ []) ∷ []

apart-met : Apart (matching [] uneven)
unfolding matching begins bits_of counting bit
apart-met = record {
  few = omega arith;
  separate = (((refl, refl), ((refl, refl), tt)), (((refl, refl), tt), (tt, tt)));
  short = (omega arith, (omega arith, (omega arith, tt)));
}

pub discover-apart-met : run (honest uneven) 0 (discover []) ≡ (done uneven, own_selects uneven [])
unfolding matching begins bits_of counting bit sort insert before
discover-apart-met = discover-apart (honest uneven) uneven [] (λ k q l b n. refl) (omega arith) apart-met

pub own-most-met : own_selects uneven [] ≤ 80
unfolding matching begins bits_of counting bit
own-most-met = own-most uneven 3 [] apart-met (omega arith, (omega arith, (omega arith, tt)))

-- An erase: the answers to its Info and to its first Erase are heard together, or one after the other.
abbrev informs : List ℕ
informs = 0xA5 ∷ 0x00 ∷ 0x01 ∷ 0x00 ∷ 0x00 ∷ 0x00 ∷ 0x00 ∷ 0x00 ∷ 0x12 ∷ 0x00 ∷ 0x06 ∷ 0x00 ∷ 0x00 ∷ 0x00 ∷ 0x04 ∷ 0x00
    ∷ 0x03 ∷ 0x00 ∷ 0x07 ∷ 0x00 ∷ 0x01 ∷ 0x02 ∷ 0xFF ∷ 0xFF ∷ 0xFF ∷ 0xFF ∷ 0x04 ∷ 0x00 ∷ 0x07 ∷ 0x51 ∷ []

abbrev told : List ℕ
told = 0x06 ∷ 0x00 ∷ 0x00 ∷ 0x00 ∷ 0x04 ∷ 0x00 ∷ 0x03 ∷ 0x00 ∷ 0x07 ∷ 0x00 ∷ 0x01 ∷ 0x02 ∷ 0xFF ∷ 0xFF ∷ 0xFF ∷ 0xFF
    ∷ 0x04 ∷ 0x00 ∷ []

abbrev erased : List ℕ
erased = 0xA5 ∷ 0x01 ∷ 0x01 ∷ 0x00 ∷ 0x00 ∷ 0x00 ∷ 0x00 ∷ 0x00 ∷ 0x00 ∷ 0x00 ∷ 0x82 ∷ 0xB4 ∷ []

abbrev hears : List ℕ → Round
hears bytes = record { image = []; buffer = replicate 14 0; heard = bytes }

pub host-moves-met :
    host_run (Paper.start_erase Paper.fresh).client [] (hears (informs ++ erased) ∷ hears [] ∷ hears erased ∷ [])
    ≡ host_run (Paper.start_erase Paper.fresh).client [] (hears informs ∷ hears erased ∷ hears erased ∷ [])
unfolding Paper.start_erase Paper.start_with Paper.proceed Paper.fresh Paper.request Paper.grant Paper.handed_out
    Paper.bytes_of Paper.payload_of erase inform transact ◌>>=◌ frame_bytes frame_body frame_head le answer answer_from read
    read_synced read_sized right_check skipped number check crc_from crc_byte crc_bit
host-moves-met = host-moves (Paper.start_erase Paper.fresh).client [] []
    (replicate 14 0) informs erased info_request _ refl (ok told) 30 refl [] (replicate 14 0) [] (hears erased ∷ [])
