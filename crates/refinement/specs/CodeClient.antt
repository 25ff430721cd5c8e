-- Each client of the operations' machine as the code's client, field by field, and each of its answers as the code's.
use Rattle.std.specs.Prelude as Std
use Rattle.std.specs.Prelude.{ℕ, Bool, true, false, cond, List, [], ◌∷◌, eqb, get_or}
use Rattle.std.proofs.Math.Option.{Option, none, some}
use Rattle.paper.specs.Client as PaperClient
use Rattle.paper.specs.Client.{refused, granted, closing, onward, over}
use Rattle.paper.specs.Hearing as PaperHearing
use Rattle.paper.specs.Talk as PaperTalk
use Rattle.paper.specs.Talk.{quiet, heard, attached, found, knows}
use Rattle.theory.specs.OperationMachine.{Search, probing, parting, seeking, backing, walking, Purpose, tell, clear}
use Rattle.theory.specs.OperationMachine.{load, Job, informing, erasing, writing, verifying, resetting, Phase}
use Rattle.theory.specs.OperationMachine.{selecting, demanding, leaving}
use Rattle.theory.specs.ClientMachine as Machine
use Rattle.theory.specs.ClientMachine.{Turn, idle, ready, waiting}
use Rattle.ids.specs.declared.Id.{Id}
use Rattle.ids.specs.Ids.{no_id, id_from}
use Rattle.hearing.specs.Heard.{id_in, kind_of, shown_heard}
use Rattle.walk_table.specs.declared.Table.{Table}
use Rattle.walk_table.specs.Rows.{no_table}
use Rattle.walk.specs.declared.Walk.{Walk}
use Rattle.walk.specs.Moves.{no_walk}
use Rattle.image.specs.Images.{code_info}
use Rattle.client.specs.declared.Search as CodeSearch
use Rattle.client.specs.declared.Search.TheVariants.{Probing, Parting, Seeking, Backing, Walking}
use Rattle.client.specs.declared.Purpose as CodePurpose
use Rattle.client.specs.declared.Purpose.TheVariants.{Tell, Clear, Load}
use Rattle.client.specs.declared.Reset.{Reset}
use Rattle.client.specs.declared.Job as CodeJob
use Rattle.client.specs.declared.Job.TheVariants.{Informing, Erasing, Writing, Verifying, Resetting}
use Rattle.client.specs.declared.Phase as CodePhase
use Rattle.client.specs.declared.Phase.TheVariants.{Select, Demand, Leave}
use Rattle.client.specs.declared.Progress.{Progress}
use Rattle.client.specs.declared.Turn as CodeTurn
use Rattle.client.specs.declared.Turn.TheVariants.{Idle, Ready, Waiting}
use Rattle.client.specs.declared.Client.{Client}
use Rattle.client.specs.declared.Outcome.TheVariants as Outcome
use Rattle.client.specs.declared.Refusal.TheVariants.{Io, Device, FirmwareTooLarge, CrcMismatch, BadInfo, Incompatible}
use Rattle.client.specs.declared.Refusal.TheVariants.{NoDevice, SeveralDevices, NoSuchUid, AmbiguousUid}
use Rattle.client.specs.declared.Refusal.TheVariants.{NotAddressable, DuplicateUid, BadPrefix, LongId, TableFull}
use Rattle.client.specs.declared.Refusal.TheVariants.{ShortBuffer, RetriesSpent, ShortVerify, SpansTooFar, OtherImage}
use Rattle.client.specs.declared.Refusal.TheVariants.{OutOfTurn}
use Rattle.client.specs.declared.Says.{Says}
use Rattle.client.specs.declared.Says.TheVariants.{Granted, Closing, Onward, Over, Refused}
use Rattle.client.specs.declared.Started.{Started}
use Rattle.client.specs.declared.Told.{Told}
use Rattle.client_request.specs.Request.{Asking}
use Rattle.refinement.specs.CodeWalk.{table_of, phase_of, walk_of}
use Rattle.client.specs.Clients.{some_progress}

-- An id that may be missing: whether it is there, and its value.
abbrev pub is_there : Option PaperHearing.Id → Bool
is_there none = false
is_there (some x) = true

abbrev pub value_of : Option PaperHearing.Id → Id
value_of none = no_id
value_of (some x) = id_from x

-- What the code's client holds in each phase: the phase, the prefix, its number of bits, the walk.
abbrev pub search_in : Search → CodeSearch.Search
search_in (probing bytes bits) = Probing
search_in parting = Parting
search_in (seeking uid) = Seeking (is_there uid)
search_in (backing uid) = Backing (is_there uid)
search_in (walking s) = Walking (phase_of s.phase)

abbrev pub purpose_in : Purpose → CodePurpose.Purpose
purpose_in tell = Tell
purpose_in clear = Clear
purpose_in (load n) = Load n

abbrev pub reset_in : Bool → Option ℕ → Reset
reset_in bootloader none = record { bootloader = bootloader; given = false; baud = 0 }
reset_in bootloader (some baud) = record { bootloader = bootloader; given = true; baud = baud }

abbrev pub job_in : Job → CodeJob.Job
job_in (informing why) = Informing (purpose_in why)
job_in (erasing why info address) = Erasing (purpose_in why) (code_info info) address
job_in (writing n info offset retries) = Writing n (code_info info) offset retries
job_in (verifying n info) = Verifying n (code_info info)
job_in (resetting bootloader baud) = Resetting (reset_in bootloader baud)

abbrev pub phase_in : Phase → CodePhase.Phase
phase_in (selecting s) = Select (search_in s)
phase_in (demanding j) = Demand (job_in j)
phase_in (leaving bootloader baud) = Leave (reset_in bootloader baud)

abbrev pub prefix_in : Phase → Id
prefix_in (selecting (probing bytes bits)) = id_from bytes
prefix_in (selecting parting) = no_id
prefix_in (selecting (seeking uid)) = value_of uid
prefix_in (selecting (backing uid)) = value_of uid
prefix_in (selecting (walking s)) = no_id
prefix_in (demanding j) = no_id
prefix_in (leaving bootloader baud) = no_id

abbrev pub bits_in : Phase → ℕ
bits_in (selecting (probing bytes bits)) = bits
bits_in (selecting parting) = 0
bits_in (selecting (seeking uid)) = 0
bits_in (selecting (backing uid)) = 0
bits_in (selecting (walking s)) = 0
bits_in (demanding j) = 0
bits_in (leaving bootloader baud) = 0

abbrev pub walk_in : Phase → Walk
walk_in (selecting (probing bytes bits)) = no_walk
walk_in (selecting parting) = no_walk
walk_in (selecting (seeking uid)) = no_walk
walk_in (selecting (backing uid)) = no_walk
walk_in (selecting (walking s)) = walk_of s
walk_in (demanding j) = no_walk
walk_in (leaving bootloader baud) = no_walk

abbrev pub standing : ℕ → Option PaperHearing.Id → CodeTurn.Turn → Id → ℕ → Walk → Client
standing seed id turn prefix bits walk =
    record {
      front = record {
        seed = seed;
        attached = is_there id;
        id = value_of id;
        turn = turn;
        prefix = prefix;
        bits = bits;
      };
      walk = walk;
    }

-- The code's client. With no operation, every field that belongs to one is zero.
abbrev pub record_of : ℕ → Option PaperHearing.Id → Turn → Client
record_of seed id idle = standing seed id Idle no_id 0 no_walk
record_of seed id (ready ph) = standing seed id (Ready (phase_in ph)) (prefix_in ph) (bits_in ph) (walk_in ph)
record_of seed id (waiting ph) = standing seed id (Waiting (phase_in ph)) (prefix_in ph) (bits_in ph) (walk_in ph)

abbrev pub client_of : Machine.Client → Client
client_of c = record_of c.seed c.id c.turn

-- The code's answer, with the progress, the id or prefix, and the ids that belong to it.
pub record Shown : Type 0 where
  pub says : Says
  pub progress : Std.Option Progress
  pub id : Id
  pub found : Table

abbrev pub progress_in : Option (ℕ × ℕ) → Std.Option Progress
progress_in none = Std.None
progress_in (some p) = some_progress p.0 p.1

abbrev pub beside : Says → Id → Shown
beside s x = record { says = s; progress = Std.None; id = x; found = no_table }

abbrev pub plainly : Says → Shown
plainly s = beside s no_id

abbrev pub making : Says → Option (ℕ × ℕ) → Shown
making s p = record { says = s; progress = progress_in p; id = no_id; found = no_table }

-- The i-th number that a refusal carries.
abbrev pub carried : ℕ → List ℕ → ℕ
carried i carries = get_or carries i 0

-- The image's key, if the refusal carries one after the device's.
abbrev pub key_in : List ℕ → Std.Option ℕ
key_in [] = Std.None
key_in (device ∷ []) = Std.None
key_in (device ∷ image ∷ more) = Std.Some image

-- The code's answer for a refusal's number and what that carries. 23 is an outcome; any number not listed gives 21.
unfoldable pub refused_as : ℕ → List ℕ → Shown
refused_as n carries =
    cond (eqb n 1) (plainly (Refused Io))
    (cond (eqb n 2) (plainly (Refused (Device (carried 0 carries))))
    (cond (eqb n 3) (plainly (Refused (FirmwareTooLarge (carried 0 carries) (carried 1 carries))))
    (cond (eqb n 4) (plainly (Refused (CrcMismatch (carried 0 carries) (carried 1 carries))))
    (cond (eqb n 5) (plainly (Refused BadInfo))
    (cond (eqb n 6) (plainly (Refused (Incompatible (carried 0 carries) (key_in carries))))
    (cond (eqb n 7) (plainly (Refused NoDevice))
    (cond (eqb n 8) (plainly (Refused SeveralDevices))
    (cond (eqb n 9) (beside (Refused NoSuchUid) (id_from carries))
    (cond (eqb n 10) (beside (Refused AmbiguousUid) (id_from carries))
    (cond (eqb n 11) (plainly (Refused NotAddressable))
    (cond (eqb n 12) (plainly (Refused DuplicateUid))
    (cond (eqb n 13) (plainly (Refused BadPrefix))
    (cond (eqb n 14) (plainly (Refused LongId))
    (cond (eqb n 15) (plainly (Refused TableFull))
    (cond (eqb n 16) (plainly (Refused (ShortBuffer (carried 0 carries))))
    (cond (eqb n 17) (plainly (Refused RetriesSpent))
    (cond (eqb n 18) (plainly (Refused ShortVerify))
    (cond (eqb n 19) (plainly (Refused SpansTooFar))
    (cond (eqb n 20) (plainly (Refused OtherImage))
    (cond (eqb n 23) (plainly (Over Outcome.Unaddressed)) (plainly (Refused OutOfTurn))))))))))))))))))))))

abbrev pub ended_as : Option (ℕ × ℕ) → PaperTalk.Outcome → Shown
ended_as p quiet = making (Over Outcome.Quiet) p
ended_as p (heard h) = beside (Over (Outcome.Heard (kind_of (shown_heard h)))) (id_in (shown_heard h))
ended_as p (attached id) = beside (Over (Outcome.Attached (is_there id))) (value_of id)
ended_as p (found ids) = record { says = Over Outcome.Found; progress = Std.None; id = no_id; found = table_of ids }
ended_as p (knows info) = making (Over (Outcome.Knows (code_info info))) p

abbrev pub shown_says : PaperClient.Says → Shown
shown_says (refused n carries) = refused_as n carries
shown_says (granted n) = plainly (Granted n)
shown_says (closing n) = plainly (Closing n)
shown_says (onward p) = making Onward p
shown_says (over p o) = ended_as p o

abbrev pub started_as : Machine.Told → Started
started_as t = record { says = (shown_says t.says).says; client = client_of t.client }

abbrev pub told_as : Machine.Told → Told
told_as t = record {
  says = (shown_says t.says).says;
  client = client_of t.client;
  rest = t.rest;
  progress = (shown_says t.says).progress;
  id = (shown_says t.says).id;
  found = (shown_says t.says).found;
}

abbrev pub asked_as : Machine.Asked → Asking
asked_as a = record {
  answer = record { says = (shown_says a.says).says; client = client_of a.client };
  bytes = a.buffer;
}
