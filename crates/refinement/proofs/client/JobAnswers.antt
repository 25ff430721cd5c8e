-- The code handles the answer to a job's request, and the image lent with it, as the machine does.
use Prim.Native.Nat.{ℕ, suc, ◌+◌, ◌-◌, ◌<◌}
use mathlib.Core.Bool.{Bool, true, false, cond}
use mathlib.Core.List.{List, [], ◌∷◌}
use mathlib.Core.Option.{Option, none, some}
use mathlib.Core.Path.{◌≡◌, refl, sym, ◌∙◌, ap}
use native.Mathlib.Omega.{arith}
use lib.Dec.{leb, ltb, eqb}
use lib.ListN.{length}
use borrow.Author.Tests.{ltb-true, ltb-false, eqb-true, not-false}
use Rattle.std.specs.Prelude.{Result, Ok, Err}
use Rattle.paper.specs.Answers as Paper
use Rattle.paper.specs.Answers.{lost, answered, ok, device, answer, sound, too_large, spans_too_far, incompatible, key}
use Rattle.paper.specs.Answers.{erase_progress, chunk, padded}
use Rattle.paper.specs.Client.{id_after, other_length, replied, end_of}
use Rattle.paper.specs.Frame.{check, field, Info}
use Rattle.paper.specs.Hearing.{Id, on_some}
use Rattle.paper.specs.Talk.{knows}
use Rattle.theory.specs.OperationMachine as OperationMachine
use Rattle.theory.specs.OperationMachine.{Purpose, tell, clear, load, Job, informing, erasing, writing, verifying}
use Rattle.theory.specs.OperationMachine.{resetting, Phase, selecting, demanding, leaving, Then, ends, refuses, Next}
use Rattle.theory.specs.OperationMachine.{working}
use Rattle.theory.specs.ClientMachine as Machine
use Rattle.theory.specs.ClientMachine.{waiting, lends, lent_to, settle, fails}
use Rattle.theory.proofs.flash.InfoRule.{sound-sizes}
use Rattle.theory.proofs.talk.MachineIsTalk.{SoundJob}
use Rattle.image.specs.Images.{code_info, shown_info, shown_key}
use Rattle.image.proofs.Ways.{some_next, none_past}
use Rattle.image.specs.Pieces.{is_last}
use Rattle.client.specs.declared.Client.{Client}
use Rattle.client.specs.declared.Job.TheVariants.{Writing}
use Rattle.client.specs.declared.Outcome.TheVariants as Outcome
use Rattle.client.specs.declared.Refusal.{Refusal}
use Rattle.client.specs.declared.Says.TheVariants as Says
use Rattle.client.specs.Clients as Clients
use Rattle.client.specs.Clients.{other_image, other_for, differs, stops, over, onward}
use Rattle.client_job.specs.declared.Then as CodeThen
use Rattle.client_job.specs.declared.Then.TheVariants.{On, Over}
use Rattle.client_job.specs.declared.Next as CodeNext
use Rattle.client_job.specs.Job as CodeJob
use Rattle.client_record.specs.Answer.{goes, on_answer, tells}
use Rattle.refinement.specs.CodeClient.{purpose_in, job_in, phase_in, record_of, refused_as, progress_in, told_as}

-- The test on the length of the image lent, and what it shows.
pub other-sim : (ph : Phase) (image : List ℕ) → other_image (phase_in ph) (length image) ≡ other_length (lends ph) image
unfolding other_image other_for differs
other-sim (selecting s) image = refl
other-sim (demanding (informing tell)) image = refl
other-sim (demanding (informing clear)) image = refl
other-sim (demanding (informing (load n))) image = refl
other-sim (demanding (erasing tell info address)) image = refl
other-sim (demanding (erasing clear info address)) image = refl
other-sim (demanding (erasing (load n) info address)) image = refl
other-sim (demanding (writing n info offset retries)) image = refl
other-sim (demanding (verifying n info)) image = refl
other-sim (demanding (resetting bootloader baud)) image = refl
other-sim (leaving bootloader baud) image = refl

pub same_length : (n : ℕ) (image : List ℕ) → other_length (some n) image ≡ false → n ≡ length image
same_length n image e = eqb-true n (length image) (not-false (eqb n (length image)) e)

-- A client with a job's request out: the machine's, and the code's.
abbrev out : ℕ → Option Id → Job → Machine.Client
out seed id j = record { seed = seed; id = id; turn = waiting (demanding j) }

abbrev code : ℕ → Option Id → Job → Client
code seed id j = record_of seed id (waiting (demanding j))

module _ (seed : ℕ) (id : Option Id) (j : Job) (at : ℕ) where
  -- The code goes on as the machine does, with any progress.
  abbrev Shows : Result CodeThen.Then Refusal → Then → Type 0
  Shows t u = (p : Option (ℕ × ℕ))
      → goes (code seed id j) (record { progress = progress_in p; then = t }) at ≡ told_as (settle (out seed id j) p u at)

  either : (b : Bool) (t v : Result CodeThen.Then Refusal) (u w : Then) → Shows t u → Shows v w → Shows (cond b t v) (cond b u w)
  either true t v u w e f = e
  either false t v u w e f = f

  job-shown : (k : Job) → Shows (Ok (On (job_in k))) (working k)
  unfolding goes onward settle
  job-shown k p = refl

  knows-shown : (info : Info) → Shows (Ok (Over (Outcome.Knows (code_info info)))) (ends (knows info))
  unfolding goes over Clients.idle settle id_after
  knows-shown info p = refl

  erases-shown : (why : Purpose) (info : Info)
      → Shows (CodeJob.erases (purpose_in why) (code_info info)) (OperationMachine.erases why info)
  unfolding CodeJob.erases OperationMachine.erases goes over Clients.idle settle refused_as
  erases-shown why info = either (spans_too_far info) _ _ (refuses 19 []) _ (λ p. refl) (job-shown (erasing why info 0))

  judged-shown : (n : ℕ) (info : Info) (image : List ℕ)
      → Shows (CodeJob.judged n (code_info info) image) (OperationMachine.judged n info image)
  unfolding CodeJob.judged OperationMachine.judged goes over Clients.idle settle refused_as
  judged-shown n info image =
      either (too_large info n) _ _ (refuses 3 _) _ (λ p. refl)
      (either (incompatible info image) _ _ (refuses 6 _) _ (keyed (key image)) (erases-shown (load n) info))
    where
      keyed : (o : Option ℕ) → Shows (Err (Refusal.Incompatible info.compat (shown_key o)))
          (refuses 6 (info.compat ∷ on_some o [] (λ k. k ∷ [])))
      keyed none p = refl
      keyed (some k) p = refl

  prepared-shown : (why : Purpose) (info : Info) (image : List ℕ)
      → Shows (CodeJob.prepared (purpose_in why) (code_info info) image) (OperationMachine.prepared why info image)
  unfolding CodeJob.prepared OperationMachine.prepared
  prepared-shown tell info image = knows-shown info
  prepared-shown clear info image = erases-shown clear info
  prepared-shown (load n) info image = judged-shown n info image

  informed-shown : (why : Purpose) (payload image : List ℕ)
      → Shows (CodeJob.informed (purpose_in why) payload image)
      (on_some (Paper.informed payload) (refuses 5 []) (λ info. OperationMachine.prepared why info image))
  unfolding CodeJob.informed goes over Clients.idle settle refused_as
  informed-shown why payload image = go (Paper.informed payload)
    where
      go : (o : Option Info)
          → Shows (CodeJob.on_informed (shown_info o) (λ info. CodeJob.prepared (purpose_in why) info image)
          (Err Refusal.BadInfo)) (on_some o (refuses 5 []) (λ info. OperationMachine.prepared why info image))
      go none p = refl
      go (some info) p = prepared-shown why info image p

  cleared-shown : (why : Purpose) (info : Info)
      → Shows (Ok (CodeJob.cleared (purpose_in why) (code_info info))) (OperationMachine.cleared why info)
  unfolding CodeJob.cleared OperationMachine.cleared CodeJob.writes OperationMachine.writes
  cleared-shown tell info = knows-shown info
  cleared-shown clear info = knows-shown info
  cleared-shown (load n) info = go (eqb n 0)
    where
      go : (b : Bool) → Shows (Ok (cond b (On (job_in (verifying n info))) (On (job_in (writing n info 0 0)))))
          (cond b (working (verifying n info)) (working (writing n info 0 0)))
      go true = job-shown (verifying n info)
      go false = job-shown (writing n info 0 0)

  verified-shown : (info : Info) (payload image : List ℕ)
      → Shows (CodeJob.verified (code_info info) payload image) (OperationMachine.verified info payload image)
  unfolding CodeJob.verified OperationMachine.verified goes over Clients.idle settle refused_as
  verified-shown info payload image =
      either (ltb (length payload) 2) _ _ (refuses 18 []) _ (λ p. refl)
      (either (eqb (check image) (field 0 2 payload)) _ _ _ (refuses 4 _) (knows-shown info) (λ p. refl))

  -- The same, with the progress made.
  abbrev ShowsNext : CodeNext.Next → Next → Type 0
  ShowsNext m n = goes (code seed id j) m at ≡ told_as (settle (out seed id j) n.progress n.then at)

  erased-shown : (why : Purpose) (info : Info) (address : ℕ) → sound info ≡ true
      → ShowsNext (CodeJob.erased (purpose_in why) (code_info info) address) (OperationMachine.erased why info address)
  unfolding CodeJob.erased OperationMachine.erased
  erased-shown why info address s = go (ltb (address + info.erase_size) info.capacity) refl
    where
      further : address < address + info.erase_size
      further = omega (arith, (sound-sizes info s).erase_size)

      go : (b : Bool) → ltb (address + info.erase_size) info.capacity ≡ b
          → ShowsNext (CodeJob.erased (purpose_in why) (code_info info) address)
          (record {
            progress = some (erase_progress info address, info.capacity);
            then = cond b (working (erasing why info (address + info.erase_size))) (OperationMachine.cleared why info);
          })
      go true e =
          rw (some_next info address (address + info.erase_size) refl further
          (ltb-true (address + info.erase_size) info.capacity e))
          (job-shown (erasing why info (address + info.erase_size)) (some (erase_progress info address, info.capacity)))
      go false e =
          rw (none_past info address (ltb-false (address + info.erase_size) info.capacity e))
          (cleared-shown why info (some (erase_progress info address, info.capacity)))

  wrote-shown : (info : Info) (offset : ℕ) (image : List ℕ)
      → ShowsNext (CodeJob.wrote (code_info info) offset image) (OperationMachine.wrote (length image) info offset)
  unfolding CodeJob.wrote OperationMachine.wrote is_last
  wrote-shown info offset image =
      either (leb (padded (length image) - offset) (chunk info.max_payload)) _ _ _ _
      (job-shown (verifying (length image) info))
      (job-shown (writing (length image) info (offset + chunk info.max_payload) 0))
      (OperationMachine.wrote (length image) info offset).progress

-- An answer of status Ok, and one of another status.
module _ (seed : ℕ) (id : Option Id) (at : ℕ) where
  accepted-shown : (j : Job) → SoundJob j → (payload image : List ℕ) → other_length (lent_to j) image ≡ false
      → ShowsNext seed id j at (CodeJob.accepted (job_in j) payload image) (OperationMachine.accepted j payload image)
  unfolding CodeJob.accepted OperationMachine.accepted goes over Clients.idle settle id_after
  accepted-shown (informing why) s payload image e = informed-shown seed id (informing why) at why payload image none
  accepted-shown (erasing why info address) s payload image e =
      erased-shown seed id (erasing why info address) at why info address s
  accepted-shown (writing n info offset retries) s payload image e =
      wrote-shown seed id (writing n info offset retries) at info offset image
      ∙ ap (λ (m : ℕ). told_as (settle (out seed id (writing n info offset retries))
      (OperationMachine.wrote m info offset).progress (OperationMachine.wrote m info offset).then at))
      (sym (same_length n image e))
  accepted-shown (verifying n info) s payload image e =
      verified-shown seed id (verifying n info) at info payload image none
  accepted-shown (resetting bootloader baud) s payload image e = refl

  declined-shown : (j : Job) (status : ℕ)
      → ShowsNext seed id j at (CodeJob.declined (job_in j) status)
      (OperationMachine.quietly (OperationMachine.declined j status))
  unfolding CodeJob.declined OperationMachine.declined CodeJob.repeated OperationMachine.repeated goes over
      Clients.idle onward settle
      refused_as
  declined-shown (informing why) status = refl
  declined-shown (erasing why info address) status = refl
  declined-shown (writing n info offset retries) status = go (eqb status 3) (ltb retries 16)
    where
      go : (a b : Bool)
          → ShowsNext seed id (writing n info offset retries) at
          (cond a (CodeJob.quietly (cond b (Ok (On (Writing n (code_info info) offset (suc retries))))
          (Err Refusal.RetriesSpent))) (CodeJob.refusing (Refusal.Device status)))
          (OperationMachine.quietly (cond a (cond b (working (writing n info offset (suc retries))) (refuses 17 []))
          (OperationMachine.declines status)))
      go true true = refl
      go true false = refl
      go false b = refl
  declined-shown (verifying n info) status = refl
  declined-shown (resetting bootloader baud) status = refl

-- The machine's answer to a record, by the answer found in it.
abbrev pub answering : ℕ → Option Id → Job → List ℕ → List ℕ → Paper.Answer → Machine.Told
answering seed id j image bytes a =
    on_some (replied a image) (fails (out seed id j) (end_of a (length bytes)))
    (λ x. settle (out seed id j) (OperationMachine.told j x.reply x.image).progress
    (OperationMachine.told j x.reply x.image).then (end_of a (length bytes)))

pub job-told : (seed : ℕ) (id : Option Id) (j : Job) → SoundJob j → (image bytes : List ℕ)
    → other_length (lent_to j) image ≡ false
    → tells (code seed id j) (job_in j) image bytes ≡ told_as (answering seed id j image bytes (answer bytes))
unfolding tells OperationMachine.told over Clients.idle refused_as
job-told seed id j s image bytes e = go (answer bytes)
  where
    go : (a : Paper.Answer)
        → on_answer a (stops (code seed id j) (Says.Refused Refusal.Io) (length bytes))
        (λ payload end. goes (code seed id j) (CodeJob.accepted (job_in j) payload image) end)
        (λ status end. goes (code seed id j) (CodeJob.declined (job_in j) status) end)
        ≡ told_as (answering seed id j image bytes a)
    go lost = refl
    go (answered (ok payload) end) = accepted-shown seed id end j s payload image e
    go (answered (device status) end) = declined-shown seed id end j status
