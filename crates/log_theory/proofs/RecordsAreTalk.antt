-- The client over the records of a log is document 01's conversation over them.
use Prim.Native.Nat.{ℕ, suc, ◌+◌, ◌%◌, ◌≤◌, ◌<◌}
use mathlib.Core.List.{List, []}
use mathlib.Core.Option.{Option, none}
use mathlib.Core.Path.{◌≡◌, refl, ◌∙◌, ap, subst}
use native.Mathlib.Omega.{arith}
use lib.ListN.{length, length-replicate}
use borrow.Author.Tests.{le-ltb}
use Rattle.std.specs.Prelude as Std
use Rattle.paper.specs.Client as Paper
use Rattle.paper.specs.Client.{refused, over, bytes_of, seed_after, cleared}
use Rattle.paper.specs.Hearing.{Id, Prefix, hear}
use Rattle.paper.specs.Log as Log
use Rattle.paper.specs.Log.{Records, missing, spoilt, next}
use Rattle.paper.specs.Talk.{select}
use Rattle.paper.specs.Walk as Walk
use Rattle.paper.specs.Walk.{Ended, done, stopped}
use Rattle.theory.specs.WalkMachine as Walking
use Rattle.theory.specs.WalkMachine.{State, Next, going, ended}
use Rattle.theory.specs.OperationMachine as OperationMachine
use Rattle.theory.specs.OperationMachine.{walking, selecting}
use Rattle.theory.specs.ClientMachine as Machine
use Rattle.theory.specs.ClientMachine.{waiting, ready}
use Rattle.theory.proofs.walk.StatesFit as StatesFit
use Rattle.theory.proofs.walk.StatesFit.{FitsNext, step_fits}
use Rattle.theory.proofs.client.ClientsFit.{Fits, record-fits}
use Rattle.theory.proofs.walk.MachineIsWalk.{resumed, resume-step}
use Rattle.ids.specs.declared.Id as Code
use Rattle.walk_table.specs.declared.Table.{Table}
use Rattle.walk_table.specs.Rows.{no_table}
use Rattle.client.specs.declared.Client.{Client}
use Rattle.client.specs.declared.Outcome.{Outcome}
use Rattle.client.specs.declared.Progress.{Progress}
use Rattle.client.specs.declared.Says.{Says}
use Rattle.client.specs.declared.Says.TheVariants.{Granted, Closing, Onward, Over, Refused}
use Rattle.client.specs.declared.Told.{Told}
use Rattle.client.specs.Numbers.{number_of, end_of, says_of}
use Rattle.client_request.specs.Request.{Asking}
use Rattle.refinement.specs.CodeWalk.{table_of}
use Rattle.refinement.specs.CodeClient.{client_of, refused_as, shown_says, told_as}
use Rattle.refinement.specs.ClientServed.{end_table}
use Rattle.refinement.proofs.client.AnswersRead.{Stops, step-stops}
use Rattle.refinement.proofs.client.RequestBytes.{request-asked}
use Rattle.refinement.proofs.wire.ServedIsMachine.{select-length, refused-table}
use Rattle.refinement.proofs.client.RecordAnswers.{record-told}
use Rattle.log_run.specs.declared.Stage.TheVariants.{Running}
use Rattle.log_run.specs.declared.Replay.{Replay}
use Rattle.log_run.specs.Run as Run
use Rattle.log_run.specs.Run.{running, handed, room, asked, goes, takes, answer}
use Rattle.log_theory.specs.WholeTalk.{talk}
use Rattle.log_theory.proofs.ReadToEnd.{talk-ended}

-- The number with which a discovery ended; 0 for success.
abbrev pub numbered : Ended (List Id) → ℕ
numbered (done ids) = 0
numbered (stopped n) = n

-- A run whose discovery ended like this, after k Selects.
pub record Closed (v : Replay) (e : Ended (List Id)) (k : ℕ) : Type 0 where
  pub code : (answer v).code ≡ numbered e
  pub found : v.found ≡ end_table e
  pub selects : v.selects ≡ k % 65536
  pub fits : FitsNext (ended e)

-- A run and the walk's machine in the same state. Either a Select is out, and the run has counted one more than
-- document 01 so far; or both have ended.
pub data Stands : Replay → Next → ℕ → Type 0 where
  out : (seed : ℕ) (id : Option Id) (s : State) (j k : ℕ)
      → Fits (record { seed = seed; id = id; turn = waiting (selecting (walking s)) }) → j ≡ suc k % 65536
      → Stands (record {
        client = client_of (record { seed = seed; id = id; turn = waiting (selecting (walking s)) });
        stage = Running;
        selects = j;
        found =
            no_table;
      }) (going s) k
  over' : (c : Client) (e : Ended (List Id)) (j k : ℕ) → j ≡ k % 65536 → FitsNext (ended e)
      → Stands (Run.ended c j (end_table e) (numbered e)) (ended e) k

counted : (j k : ℕ) → j ≡ k % 65536 → (j + 1) % 65536 ≡ suc k % 65536
counted j k e = omega arith

-- Handing out the next Select of a discovery.
module _ (seed : ℕ) (id : Option Id) (s : State)
    (f : Fits (record { seed = seed; id = id; turn = ready (selecting (walking s)) })) where
  abbrev c : Machine.Client
  c = record { seed = seed; id = id; turn = ready (selecting (walking s)) }

  abbrev q : Prefix
  q = OperationMachine.selected (walking s)

  abbrev next-seed : ℕ
  next-seed = seed_after (select q) seed

  small : length (bytes_of (select q) next-seed []) ≤ 31
  unfolding OperationMachine.selected
  small = select-length q next-seed [] (StatesFit.request-fits s f.turn)

  wide : length room ≡ 64
  unfolding room
  wide = length-replicate {A = ℕ} 64 0

  grants : (Machine.request c [] room).says ≡ Paper.granted (length (bytes_of (select q) next-seed []))
  unfolding Machine.request Machine.grant Machine.handed_out
  grants = rw (le-ltb (length room) (length (bytes_of (select q) next-seed [])) (omega (arith, small, wide)))

  leaves : (Machine.request c [] room).client
      ≡ record { seed = next-seed; id = id; turn = waiting (selecting (walking s)) }
  unfolding Machine.request Machine.grant Machine.handed_out
  leaves = rw (le-ltb (length room) (length (bytes_of (select q) next-seed [])) (omega (arith, small, wide)))

  asked-out : (j : ℕ) → asked (client_of c) j
      ≡ running (client_of (record { seed = next-seed; id = id; turn = waiting (selecting (walking s)) })) j
  unfolding handed
  asked-out j =
      ap (λ (a : Asking). handed a.answer j) (request-asked c f [] room)
      ∙ ap (λ (x : Paper.Says). handed
      (record { says = (shown_says x).says; client = client_of (Machine.request c [] room).client }) j) grants
      ∙ ap (λ (x : Machine.Client). running (client_of x) j) leaves

  byte : next-seed < 256
  byte = omega arith

  pub asked-stands : (j k : ℕ) → j ≡ k % 65536 → Stands (asked (client_of c) j) (going s) k
  asked-stands j k e =
      rw (asked-out j) (out next-seed id s ((j + 1) % 65536) k (record { seed = byte; id = f.id; turn = f.turn })
      (counted j k e))

-- A refusal ends the run with its number.
number-ends : (says : Says) (p : Std.Option Progress) (x : Code.Id) (t : Table) (n : ℕ) → says_of says p x t ≡ refused n []
    → (c : Client) (k : ℕ) → goes says c k t ≡ Run.ended c k t n
unfolding says_of goes end_of
number-ends (Granted m) p x t n e c k = absurd (let z : ◌≡◌ {A = ℕ} 0 1 = cc in omega arith)
number-ends (Closing m) p x t n e c k = absurd (let z : ◌≡◌ {A = ℕ} 0 1 = cc in omega arith)
number-ends Onward p x t n e c k = absurd (let z : ◌≡◌ {A = ℕ} 0 1 = cc in omega arith)
number-ends (Over Outcome.Quiet) p x t n e c k = absurd (let z : ◌≡◌ {A = ℕ} 0 1 = cc in omega arith)
number-ends (Over (Outcome.Heard h)) p x t n e c k = absurd (let z : ◌≡◌ {A = ℕ} 0 1 = cc in omega arith)
number-ends (Over (Outcome.Attached any)) p x t n e c k = absurd (let z : ◌≡◌ {A = ℕ} 0 1 = cc in omega arith)
number-ends (Over Outcome.Found) p x t n e c k = absurd (let z : ◌≡◌ {A = ℕ} 0 1 = cc in omega arith)
number-ends (Over (Outcome.Knows info)) p x t n e c k = absurd (let z : ◌≡◌ {A = ℕ} 0 1 = cc in omega arith)
number-ends (Over Outcome.Unaddressed) p x t n e c k = ap (Run.ended c k t) (cc)
number-ends (Refused r) p x t n e c k = ap (Run.ended c k t) number
  where
    number : number_of r ≡ n
    number = cc

-- A record changes a run as what is heard in it changes the machine.
module _ (seed : ℕ) (id : Option Id) (s : State)
    (f : Fits (record { seed = seed; id = id; turn = waiting (selecting (walking s)) })) (bytes : List ℕ) (j k : ℕ)
    (e : j ≡ suc k % 65536) where
  abbrev w : Machine.Client
  w = record { seed = seed; id = id; turn = waiting (selecting (walking s)) }

  abbrev kept : Option Id
  kept = cleared (select (OperationMachine.selected (walking s))) id

  abbrev settled : Next → Machine.Told
  settled n = Machine.settle (record { seed = seed; id = kept; turn = waiting (selecting (walking s)) }) none
      (OperationMachine.walked n) (length bytes)

  tells : Machine.record' w [] bytes ≡ settled (Walking.step s (hear bytes))
  unfolding Machine.record' OperationMachine.step OperationMachine.hears
  tells = refl

  abbrev onto : Next → Replay
  onto n = goes (told_as (settled n)).says (told_as (settled n)).client j (told_as (settled n)).found

  takes-is : takes (record { client = client_of w; stage = Running; selects = j; found = no_table }) bytes
      ≡ onto (Walking.step s (hear bytes))
  unfolding takes
  takes-is = ap (λ (t : Told). goes t.says t.client j t.found) (record-told w f [] bytes ∙ ap told_as tells)

  settled-fits : Fits (settled (Walking.step s (hear bytes))).client
  settled-fits = subst (λ (t : Machine.Told). Fits t.client) tells (record-fits w f [] bytes)

  onto-stands : (n : Next) → FitsNext n → Stops n → Fits (settled n).client → Stands (onto n) n (suc k)
  unfolding Machine.settle goes
  onto-stands (going t) ft u fc = asked-stands seed kept t fc j (suc k) e
  onto-stands (ended (done ids)) ft u fc = over' (told_as (settled (ended (done ids)))).client (done ids) j (suc k) e ft
  onto-stands (ended (stopped n)) ft u fc =
      rw (
        number-ends (refused_as n []).says _ (refused_as n []).id (refused_as n []).found n u
            (told_as (settled (ended (stopped n)))).client j,
        refused-table n [],
      )
      (over' (told_as (settled (ended (stopped n)))).client (stopped n) j (suc k) e tt)

  took : Stands (takes (record { client = client_of w; stage = Running; selects = j; found = no_table }) bytes)
      (Walking.step s (hear bytes)) (suc k)
  took = rw takes-is (onto-stands (Walking.step s (hear bytes)) (step_fits s (hear bytes) f.turn)
      (step-stops s (hear bytes)) settled-fits)

-- Document 01's conversation from the machine's state on.
over-step : (s : State) (rs : Records) (k : ℕ)
    → Log.over_records (resumed (going s)) rs k
    ≡ Log.over_records (Walk.select (Walking.request s) (λ h. resumed (Walking.step s h))) rs k
unfolding resumed
over-step s rs k = ap (λ (m : Walk.Walk (List Id)). Log.over_records m rs k) (resume-step s)

-- From a run and a machine in the same state, both end alike over these records.
abbrev pub Talks : Records → Type 0
Talks rs = (v : Replay) (n : Next) (k : ℕ) → Stands v n k
    → Closed (talk v rs) (Log.over_records (resumed n) rs k).0 (Log.over_records (resumed n) rs k).1

ended-talks : (rs : Records) (x : Client) (e : Ended (List Id)) (j k : ℕ) → j ≡ k % 65536 → FitsNext (ended e)
    → Closed (talk (Run.ended x j (end_table e) (numbered e)) rs) (Log.over_records (resumed (ended e)) rs k).0
    (Log.over_records (resumed (ended e)) rs k).1
unfolding Log.over_records resumed answer
ended-talks rs x (done ids) j k e f =
    rw (talk-ended rs (Run.ended x j (table_of ids) 0) refl)
    (record { code = refl; found = refl; selects = e; fits = f })
ended-talks rs x (stopped n) j k e f =
    rw (talk-ended rs (Run.ended x j no_table n) refl) (record { code = refl; found = refl; selects = e; fits = tt })

missing-talks : Talks missing
unfolding talk Log.over_records resumed answer
missing-talks v n k (over' x e j k₁ r f) = ended-talks missing x e j k₁ r f
missing-talks v n k (out seed id s j k₁ f r) =
    rw (over-step s missing k₁) (record { code = refl; found = refl; selects = r; fits = tt })

spoilt-talks : Talks spoilt
unfolding talk Log.over_records resumed answer
spoilt-talks v n k (over' x e j k₁ r f) = ended-talks spoilt x e j k₁ r f
spoilt-talks v n k (out seed id s j k₁ f r) =
    rw (over-step s spoilt k₁) (record { code = refl; found = refl; selects = r; fits = tt })

next-talks : (bytes : List ℕ) (rs : Records) → Talks rs → Talks (next bytes rs)
unfolding talk Log.over_records
next-talks bytes rs ih v n k (over' x e j k₁ r f) = ended-talks (next bytes rs) x e j k₁ r f
next-talks bytes rs ih v n k (out seed id s j k₁ f r) =
    rw (over-step s (next bytes rs) k₁) (ih _ (Walking.step s (hear bytes)) (suc k₁) (took seed id s f bytes j k₁ r))

pub talks : (rs : Records) → Talks rs
talks missing = missing-talks
talks spoilt = spoilt-talks
talks (next bytes rs) = next-talks bytes rs (talks rs)
