-- A discovery over a log: the run after line one and after a record, and its answer at the end of the input.
use Rattle.std.specs.Prelude.{ℕ, ◌+◌, ◌%◌, Bool, true, false, cond, List, [], replicate}
use Rattle.paper.specs.Hearing.{on_some}
use Rattle.paper.specs.Log.{prefix_in}
use Rattle.walk_table.specs.declared.Table.{Table}
use Rattle.walk_table.specs.Rows.{no_table}
use Rattle.client.specs.declared.Client.{Client}
use Rattle.client.specs.declared.Refusal.{Refusal}
use Rattle.client.specs.declared.Outcome.{Outcome}
use Rattle.client.specs.declared.Says.{Says}
use Rattle.client.specs.declared.Says.TheVariants.{Granted, Closing, Onward, Over, Refused}
use Rattle.client.specs.declared.Started.{Started}
use Rattle.client.specs.Clients.{fresh}
use Rattle.client.specs.Numbers.{number_of}
use Rattle.client_start.specs.Start.{start_discover}
use Rattle.client_request.specs.Request.{request}
use Rattle.client_record.specs.Record.{record'}
use Rattle.log_listing.specs.declared.Answer.{Answer}
use Rattle.log_run.specs.declared.Stage.{Stage}
use Rattle.log_run.specs.declared.Stage.TheVariants.{First, Running, Ended}
use Rattle.log_run.specs.declared.Replay.{Replay}

-- A value for each case.
abbrev pub on_stage {ℓ} : {A : Type ℓ} → Stage → A → A → (ℕ → A) → A
on_stage First f r e = f
on_stage Running f r e = r
on_stage (Ended k) f r e = e k

abbrev pub on_says {ℓ} : {A : Type ℓ} → Says → (ℕ → A) → (ℕ → A) → A → (Outcome → A) → (Refusal → A) → A
on_says (Granted n) g c o v r = g n
on_says (Closing n) g c o v r = c n
on_says Onward g c o v r = o
on_says (Over x) g c o v r = v x
on_says (Refused x) g c o v r = r x

-- The number of an outcome.
abbrev pub outcome : Outcome → ℕ
outcome Outcome.Quiet = 0
outcome (Outcome.Heard h) = 0
outcome (Outcome.Attached any) = 0
outcome Outcome.Found = 0
outcome (Outcome.Knows info) = 0
outcome Outcome.Unaddressed = 23

-- The number that a run ends with, from what a call says.
abbrev pub code : Says → ℕ
code says = on_says says (λ n. 0) (λ n. 0) 0 outcome number_of

abbrev pub is_ended : Stage → Bool
is_ended s = on_stage s false false (λ k. true)

-- A run before line one.
unfoldable pub begun : Replay
begun = record { client = fresh; stage = First; selects = 0; found = no_table }

-- A run that has ended with a number.
abbrev pub ended : Client → ℕ → Table → ℕ → Replay
ended c k found n = record { client = c; stage = Ended n; selects = k; found = found }

abbrev pub stops : Replay → ℕ → Replay
stops v n = ended v.client v.selects v.found n

-- A run with one more Select out.
abbrev pub running : Client → ℕ → Replay
running c k = record { client = c; stage = Running; selects = (k + 1) % 65536; found = no_table }

abbrev pub is_granted : Says → Bool
is_granted says = on_says says (λ n. true) (λ n. false) false (λ o. false) (λ r. false)

abbrev pub is_onward : Says → Bool
is_onward says = on_says says (λ n. false) (λ n. false) true (λ o. false) (λ r. false)

-- The run after asking for a Select: one more is out if it was granted. If not, the run ends.
unfoldable pub handed : Started → ℕ → Replay
handed s k = cond (is_granted s.says) (running s.client k) (ended s.client k no_table (code s.says))

-- A buffer that is long enough for any Select.
unfoldable pub room : List ℕ
room = replicate 64 0

abbrev pub asked : Client → ℕ → Replay
asked c k = handed (request c [] room).answer k

-- The next Select is asked for if the operation goes on. If not, the run ends.
unfoldable pub goes : Says → Client → ℕ → Table → Replay
goes says c k found = cond (is_onward says) (asked c k) (ended c k found (code says))

-- "Line one: 01 and prefix bytes."
unfoldable pub opens : Replay → List ℕ → Replay
opens v line =
    on_some (prefix_in line) (stops v 22)
    (λ given. goes (start_discover v.client given).says (start_discover v.client given).client
    v.selects no_table)

-- A record is handed to the client.
unfoldable pub takes : Replay → List ℕ → Replay
takes v bytes =
    goes (record' v.client [] bytes).says (record' v.client [] bytes).client v.selects
    (record' v.client [] bytes).found

-- "a first line missing": 22; "a record without its empty line gives 1".
unfoldable pub answer : Replay → Answer
answer v = record { code = on_stage v.stage 22 1 (λ k. k); selects = v.selects; found = v.found }
