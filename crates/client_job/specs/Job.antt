-- What an operation does after the reply to a request with one answer.
use Rattle.std.specs.Prelude as Std
use Rattle.std.specs.Prelude.{ℕ, Result, Ok, Err, suc, ◌+◌, cond, List, ltb, eqb, length}
use Rattle.paper.specs.Frame.{field, check}
use Rattle.paper.specs.Answers as Paper
use Rattle.paper.specs.Answers.{spans_too_far, too_large, reported, key, incompatible, chunk, erase_progress}
use Rattle.image.specs.declared.Info.{Info}
use Rattle.image.specs.declared.BadInfo.{BadInfo}
use Rattle.image.specs.Images.{paper_info, shown_info, shown_key, erase_after}
use Rattle.image.specs.Pieces.{is_last, chunks_to, chunks}
use Rattle.client.specs.declared.Job.{Job}
use Rattle.client.specs.declared.Job.TheVariants.{Erasing, Writing, Verifying}
use Rattle.client.specs.declared.Outcome.{Outcome}
use Rattle.client.specs.declared.Outcome.TheVariants.{Quiet, Knows}
use Rattle.client.specs.declared.Purpose.{Purpose}
use Rattle.client.specs.declared.Purpose.TheVariants.{Clear, Load}
use Rattle.client.specs.declared.Refusal.{Refusal}
use Rattle.client.specs.Clients.{on_purpose, on_job}
use Rattle.client_job.specs.declared.Then.{Then}
use Rattle.client_job.specs.declared.Then.TheVariants.{On, Over}
use Rattle.client_job.specs.declared.Next.{Next}
use Rattle.client.specs.Clients.{some_progress}

-- A value for each case.
abbrev pub on_informed {ℓ} : {A : Type ℓ} → Result Info BadInfo → (Info → A) → A → A
on_informed (Ok info) f g = f info
on_informed (Err e) f g = g

abbrev pub on_erase {ℓ} : {A : Type ℓ} → Std.Option ℕ → (ℕ → A) → A → A
on_erase (Std.Some address) f g = f address
on_erase Std.None f g = g

abbrev pub on_then {ℓ} : {A : Type ℓ} → Result Then Refusal → (Job → A) → (Outcome → A) → (Refusal → A) → A
on_then (Ok (On job)) f g h = f job
on_then (Ok (Over o)) f g h = g o
on_then (Err r) f g h = h r

-- No progress was made.
abbrev pub quietly : Result Then Refusal → Next
quietly t = record { progress = Std.None; then = t }

abbrev pub refusing : Refusal → Next
refusing r = quietly (Err r)

-- The first Erase, unless 19: "capacity rounded up to erase_size is above 2^32 - 1".
unfoldable pub erases : Purpose → Info → Result Then Refusal
erases why info = cond (spans_too_far (paper_info info)) (Err Refusal.SpansTooFar) (Ok (On (Erasing why info 0)))

-- "3 if the image exceeds capacity .. 6 if compat is set and the image's key is missing or different".
unfoldable pub judged : ℕ → Info → List ℕ → Result Then Refusal
judged n info image =
    cond (too_large (paper_info info) n) (Err (Refusal.FirmwareTooLarge (reported n) info.capacity))
    (cond (incompatible (paper_info info) image) (Err (Refusal.Incompatible info.compat (shown_key (key image))))
    (erases (Load n) info))

-- What is next after a sound Info, by what the Info was for.
unfoldable pub prepared : Purpose → Info → List ℕ → Result Then Refusal
prepared why info image = on_purpose why (Ok (Over (Knows info))) (erases Clear info) (λ n. judged n info image)

-- The reply to an Info.
unfoldable pub informed : Purpose → List ℕ → List ℕ → Result Then Refusal
informed why payload image = on_informed (shown_info (Paper.informed payload)) (λ info. prepared why info image)
    (Err Refusal.BadInfo)

-- The first Write. "M empty image: no Write, Verify at 0."
unfoldable pub writes : ℕ → Info → Then
writes n info = cond (eqb n 0) (On (Verifying n info)) (On (Writing n info 0 0))

-- After the last Erase an erase has ended, and a flash goes on with its Writes.
unfoldable pub cleared : Purpose → Info → Then
cleared why info = on_purpose why (Over (Knows info)) (Over (Knows info)) (λ n. writes n info)

-- The reply to an Erase: the next Erase, or what follows the last one.
unfoldable pub erased : Purpose → Info → ℕ → Next
erased why info address =
    on_erase (erase_after (paper_info info) address)
    (λ next. record {
      progress = some_progress (erase_progress (paper_info info) address) info.capacity;
      then = Ok (On (Erasing why info next));
    })
    (record { progress = some_progress (erase_progress (paper_info info) address) info.capacity; then = Ok (cleared why info) })

-- The reply to a Write: the next Write, or Verify after the last one.
unfoldable pub wrote : Info → ℕ → List ℕ → Next
wrote info offset image = record {
  progress = some_progress (chunks_to (paper_info info) offset) (chunks (paper_info info) (length image));
  then =
      cond (is_last (paper_info info) (length image) offset) (Ok (On (Verifying (length image) info)))
      (Ok (On (Writing (length image) info (offset + chunk info.max_payload) 0)));
}

-- "the 17th in a row for one offset gives 17."
unfoldable pub repeated : ℕ → Info → ℕ → ℕ → Result Then Refusal
repeated n info offset retries =
    cond (ltb retries 16) (Ok (On (Writing n info offset (suc retries)))) (Err Refusal.RetriesSpent)

-- The reply to a Verify: "its reply's first two bytes are the check, else 4; under two bytes is 18."
unfoldable pub verified : Info → List ℕ → List ℕ → Result Then Refusal
verified info payload image =
    cond (ltb (length payload) 2) (Err Refusal.ShortVerify)
    (cond (eqb (check image) (field 0 2 payload)) (Ok (Over (Knows info)))
    (Err (Refusal.CrcMismatch (check image) (field 0 2 payload))))

-- A reply of status "Ok", with its payload.
unfoldable pub accepted : Job → List ℕ → List ℕ → Next
accepted j payload image =
    on_job j
    (λ why. quietly (informed why payload image))
    (λ why info address. erased why info address)
    (λ n info offset retries. wrote info offset image)
    (λ n info. quietly (verified info payload image))
    (λ reset. quietly (Ok (Over Quiet)))

-- "Status other than Ok: 2 with it"; "Status 3 repeats the same Write".
unfoldable pub declined : Job → ℕ → Next
declined j status =
    on_job j
    (λ why. refusing (Refusal.Device status))
    (λ why info address. refusing (Refusal.Device status))
    (λ n info offset retries. cond (eqb status 3) (quietly (repeated n info offset retries))
    (refusing (Refusal.Device status)))
    (λ n info. refusing (Refusal.Device status))
    (λ reset. refusing (Refusal.Device status))
