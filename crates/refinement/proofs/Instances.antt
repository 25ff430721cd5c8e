-- Premises can be met: theorems of this crate, applied to values that satisfy their premises.
use Prim.Native.Nat.{ℕ, ◌≤◌}
use mathlib.Core.List.{List, [], ◌∷◌}
use mathlib.Core.Option.{Option, some}
use mathlib.Core.Path.{◌≡◌, refl}
use native.Mathlib.Omega.{arith}
use lib.ListN.{drop, replicate}
use Rattle.paper.specs.Answers.{sound, answer}
use Rattle.paper.specs.Count.{matching, honest, All, selects}
use Rattle.paper.specs.Frame.{Info}
use Rattle.paper.specs.Hearing.{Id, bit, bits_of, counting, begins, before, one}
use Rattle.paper.specs.Walk.{insert, sort, discover, done, run}
use Rattle.theory.specs.ClientMachine as Machine
use Rattle.theory.specs.ClientMachine.{ready, waiting}
use Rattle.theory.specs.WalkMachine.{mine, State, ended, request, step}
use Rattle.theory.specs.OperationMachine.{Job, writing, demanding}
use Rattle.theory.proofs.walk.StatesFit as StatesFit
use Rattle.theory.proofs.walk.StatesFit.{Short}
use Rattle.theory.proofs.Instances.{ids, found, under, pods}
use Rattle.ids.specs.Ids.{no_id}
use Rattle.hearing.specs.Heard.{kind_of, id_in, shown_heard}
use Rattle.walk_table.specs.Rows.{row, sorted}
use Rattle.walk.specs.declared.Phase.TheVariants.{Mine}
use Rattle.walk.specs.Moves as Moves
use Rattle.walk_step.specs.Steps as Steps
use Rattle.client_start.specs.Start as CodeStart
use Rattle.client_request.specs.Request as CodeRequest
use Rattle.client_record.specs.Answer.{tells}
use Rattle.client_record.specs.Record as CodeRecord
use Rattle.refinement.specs.CodeClient.{job_in, record_of, client_of, started_as, told_as, asked_as}
use Rattle.refinement.specs.WalkDriven.{bits_asked, driven, begun}
use Rattle.refinement.specs.CodeWalk.{row_of, table_of, walk_of, next_of}
use Rattle.refinement.proofs.walk.AskedBits.{asks-sim}
use Rattle.refinement.proofs.walk.EndsAndFinds as Condition3
use Rattle.refinement.proofs.client.JobAnswers.{answering, job-told}
use Rattle.refinement.proofs.client.RequestBytes.{request-asked}
use Rattle.refinement.proofs.walk.StepIsMachine.{step-sim}
use Rattle.refinement.proofs.client.StartAnswers.{discover-started}
use Rattle.refinement.proofs.walk.TableRows.{row-of-table, unused-bytes, unused-lengths, unused-row}
use Rattle.refinement.proofs.walk.TableRows.{table-sorted}
use Rattle.refinement.proofs.client.RecordAnswers.{record-told}

-- A flash of 5 bytes, with its second Write next and then out, by a client of seed 255 with an id attached; and the
-- answer to that Write.
abbrev device : Info
device = record {
  capacity = 6;
  erase_size = 4;
  boot_version = 3;
  app_version = 7;
  mode = 1;
  boot_baud = 2;
  compat = 0xFFFFFFFF;
  max_payload = 4;
}

abbrev attached : Option Id
attached = some (0xC1 ∷ 0x07 ∷ [])

abbrev job : Job
job = writing 5 device 4 0

abbrev image : List ℕ
image = 0x10 ∷ 0x21 ∷ 0x32 ∷ 0x43 ∷ 0x54 ∷ []

abbrev wrote : List ℕ
wrote = 0xA5 ∷ 0x02 ∷ 0x01 ∷ 0x00 ∷ 0x00 ∷ 0x00 ∷ 0x00 ∷ 0x00 ∷ 0x00 ∷ 0x00 ∷ 0xC6 ∷ 0x99 ∷ []

abbrev sends : Machine.Client
sends = record { seed = 255; id = attached; turn = ready (demanding job) }

abbrev sent : Machine.Client
sent = record { seed = 255; id = attached; turn = waiting (demanding job) }

pub discover-started-met : CodeStart.start_discover (client_of sends) (0xC1 ∷ 0x07 ∷ [])
    ≡ started_as (Machine.start_discover sends (0xC1 ∷ 0x07 ∷ []))
discover-started-met = discover-started sends (0xC1 ∷ 0x07 ∷ []) (omega arith, (omega arith, tt))

pub job-told-met : tells (record_of 255 attached (waiting (demanding job))) (job_in job) image wrote
    ≡ told_as (answering 255 attached job image wrote (answer wrote))
unfolding sound
job-told-met = job-told 255 attached job refl image wrote refl

pub request-asked-met : CodeRequest.request (client_of sends) image (replicate 17 0)
    ≡ asked_as (Machine.request sends image (replicate 17 0))
unfolding sound
request-asked-met = request-asked sends (record { seed = omega arith; id = omega arith; turn = refl }) image
    (replicate 17 0)

pub record-told-met : CodeRecord.record' (client_of sent) image wrote ≡ told_as (Machine.record' sent image wrote)
unfolding sound
record-told-met = record-told sent (record { seed = omega arith; id = omega arith; turn = refl }) image wrote

-- A discovery under C1 that has kept C1 07 and is confirming C1 87 by the child that C1 87 is in.
abbrev confirming : State
confirming = record {
  pre = bits_of (0xC1 ∷ []);
  marks = [];
  ids = (0xC1 ∷ 0x07 ∷ []) ∷ [];
  phase = mine (0xC1 ∷ 0x87 ∷ []);
}

confirming-fits : StatesFit.Fits confirming
unfolding bits_of counting
confirming-fits = record {
  depth = omega arith;
  few = omega arith;
  short = (omega arith, tt);
  held = (omega arith, omega arith);
}

pub step-sim-met :
    Steps.step (walk_of confirming) Mine (kind_of (shown_heard (one (0xC1 ∷ 0x87 ∷ []))))
    (id_in (shown_heard (one (0xC1 ∷ 0x87 ∷ []))))
    ≡ next_of (step confirming (one (0xC1 ∷ 0x87 ∷ [])))
step-sim-met = step-sim confirming (one (0xC1 ∷ 0x87 ∷ [])) confirming-fits

pub asks-sim-met : bits_asked (Moves.asks (walk_of confirming) Mine) ≡ request confirming
asks-sim-met = asks-sim confirming confirming-fits

-- A table of two ids of different lengths, not in order.
abbrev two : List Id
two = (0xC1 ∷ 0x87 ∷ []) ∷ (0xC1 ∷ []) ∷ []

two-short : All Short two
two-short = (omega arith, (omega arith, tt))

pub row-of-table-met : row (table_of two) 1 ≡ row_of (0xC1 ∷ [])
row-of-table-met = row-of-table two (omega arith) two-short 1 (omega arith)

pub unused-bytes-met : drop 32 (table_of two).ids ≡ replicate 992 0
unused-bytes-met = unused-bytes two (omega arith) two-short 32 (omega arith)

pub unused-lengths-met : drop 2 (table_of two).lens ≡ replicate 62 0
unused-lengths-met = unused-lengths two (omega arith) two-short 2 (omega arith)

pub unused-row-met : row (table_of two) 63 ≡ record { id = no_id }
unused-row-met = unused-row two (omega arith) two-short 63 (omega arith) (omega arith)

pub table-sorted-met : sorted (table_of two) ≡ table_of ((0xC1 ∷ []) ∷ (0xC1 ∷ 0x87 ∷ []) ∷ [])
unfolding sort insert before
table-sorted-met = table-sorted two (omega arith) two-short

-- Three ids of one length, two of which begin with C1.
pub ends-met :
    (driven 31332 (honest ids) 0 (begun under)
    ≡ (next_of (ended (run (honest ids) 0 (discover under)).0), (run (honest ids) 0 (discover under)).1))
    × ((run (honest ids) 0 (discover under)).1 ≤ 31332)
unfolding bits_of counting
ends-met = Condition3.ends (honest ids) under (omega arith)

pub finds-met : (driven 31332 (honest ids) 0 (begun under) ≡ (next_of (ended (done found)), selects ids 2 under))
    × (selects ids 2 under ≤ 22)
unfolding matching begins bits_of counting bit sort insert before
finds-met = Condition3.finds (honest ids) ids 2 under (λ k q l b n. refl) (omega arith) pods
