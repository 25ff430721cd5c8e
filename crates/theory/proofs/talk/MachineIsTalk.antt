-- The operations' machine runs document 01's conversations: each phase is a place in one, and each step is one of its
-- steps.
use Prim.Native.Nat.{ℕ, suc, ◌+◌, ◌-◌, ◌/◌, ◌<◌, ◌≤◌}
use mathlib.Core.Bool.{Bool, true, false, ◌&&◌, not, cond}
use mathlib.Core.List.{List, [], ◌∷◌}
use mathlib.Core.Option.{Option, none, some}
use mathlib.Core.Path.{◌≡◌, refl, sym, ◌∙◌, ap}
use native.Mathlib.Omega.{arith}
use lib.Dec.{leb, ltb, eqb}
use lib.ListN.{length, take}
use borrow.Author.Tests.{ltb-true, ltb-false, leb-true, leb-false, eqb-true, eqb-false}
use Rattle.paper.specs.Answers.{Reply, ok, device, sound, informed, steps, below, spans_too_far, erase_addresses}
use Rattle.paper.specs.Answers.{erase_progress, too_large, reported, incompatible, chunk, padding, padded}
use Rattle.paper.specs.Attach.{listen, select_only, deselect, prefix_of, met, attach, discover}
use Rattle.paper.specs.Flash as Flash
use Rattle.paper.specs.Flash.{info_request, erase_request, write_request, verify_request, reset_request, keys, transact}
use Rattle.paper.specs.Flash.{refuse_if, inform, erase_one, erase_all, prepare, persist, write_within, write_one, offsets}
use Rattle.paper.specs.Flash.{write_all, verify, known, inform_only, erase, flash, reset}
use Rattle.paper.specs.Frame.{field, check, Info, info_of}
use Rattle.paper.specs.Hearing.{Id, Prefix, bits_of, on_some, Heard, nothing, one, unaddressed, garble}
use Rattle.paper.specs.Talk as Talk
use Rattle.paper.specs.Talk.{Demand, select, demand, Talk, return, stop, report, ask, ◌>>=◌, ◌>>◌, each, Outcome, found}
use Rattle.paper.specs.Talk.{knows}
use Rattle.paper.specs.Walk as Walk
use Rattle.paper.specs.Walk.{Walk, long, done, stopped}
use Rattle.paper.proofs.Addresses.{below-cons, below-nil}
use Rattle.theory.specs.WalkMachine as Machine
use Rattle.theory.specs.WalkMachine.{going, ended}
use Rattle.theory.specs.OperationMachine.{Search, probing, parting, seeking, backing, walking, Purpose, tell}
use Rattle.theory.specs.OperationMachine.{clear, load, Job, informing, erasing, writing, verifying, resetting}
use Rattle.theory.specs.OperationMachine.{Phase, selecting, demanding, leaving, selected, demanded, request, Then}
use Rattle.theory.specs.OperationMachine.{to, ends, refuses, Next, unless_long, sought, backed, walked, hears}
use Rattle.theory.specs.OperationMachine.{working, erases, judged, prepared, writes, cleared, erased, wrote}
use Rattle.theory.specs.OperationMachine.{repeated, verified, accepted, declined, told, step, starting}
use Rattle.theory.proofs.talk.TalkRules.{bind_assoc}
use Rattle.theory.proofs.flash.InfoRule.{sound-sizes, sound-chunk}
use Rattle.theory.proofs.walk.MachineIsWalk as MachineIsWalk

-- The device information of a job satisfies the Info rule.
abbrev pub SoundJob : Job → Type 0
SoundJob (informing why) = Unit {0}
SoundJob (erasing why info address) = sound info ≡ true
SoundJob (writing n info offset retries) = sound info ≡ true
SoundJob (verifying n info) = sound info ≡ true
SoundJob (resetting bootloader baud) = Unit {0}

abbrev pub Sound : Phase → Type 0
Sound (selecting s) = Unit {0}
Sound (demanding j) = SoundJob j
Sound (leaving bootloader baud) = Unit {0}

has-chunk : (info : Info) → sound info ≡ true → 0 < chunk info.max_payload
has-chunk info s = omega (arith, sound-chunk info s)

-- The end of an attach that several devices answered, and the end of a discovery.
abbrev pub several : Option Id → Talk Outcome
several uid = on_some uid (stop 8 []) (λ given. stop 10 given)

abbrev pub finding : List Id → Talk Outcome
finding ids = return (found ids)

-- Parts of the operations that begin with Info, each up to the end: all of it; from the Verify; from the Write at an
-- offset; after the last Erase; from the Erase at an address.
unfoldable pub whole : Purpose → Talk Outcome
whole tell = inform_only
whole clear = erase
whole (load n) = flash n

abbrev pub verifies : ℕ → Info → Talk Outcome
verifies n info = verify n >> known info

abbrev pub writes_from : ℕ → Info → ℕ → Talk Outcome
writes_from n info offset = each (below (chunk info.max_payload) (padded n) offset)
    (write_one info n) >> verifies n info

unfoldable pub after_erase : Purpose → Info → Talk Outcome
after_erase tell info = known info
after_erase clear info = known info
after_erase (load n) info = write_all info n >> verifies n info

abbrev pub erases_from : Purpose → Info → ℕ → Talk Outcome
erases_from why info address = each (below info.erase_size info.capacity address)
    (erase_one info) >> after_erase why info

-- The rest of the conversation in a phase.
unfoldable pub resume_search : Search → Talk Outcome
resume_search (probing bytes bits) = select_only (take bits (bits_of bytes))
resume_search parting = deselect
resume_search (seeking uid) = attach uid
resume_search (backing uid) = deselect >> several uid
resume_search (walking s) = Talk.walking (MachineIsWalk.resume s) >>= finding

unfoldable pub resume_job : Job → Talk Outcome
resume_job (informing why) = whole why
resume_job (erasing why info address) = erase_one info address >> erases_from why info (address + info.erase_size)
resume_job (writing n info offset retries) =
    write_within (suc (16 - retries)) info n offset >> writes_from n info (offset + chunk info.max_payload)
resume_job (verifying n info) = verifies n info
resume_job (resetting bootloader baud) = reset bootloader baud true

unfoldable pub resume : Phase → Talk Outcome
resume (selecting s) = resume_search s
resume (demanding j) = resume_job j
resume (leaving bootloader baud) = reset bootloader baud false

unfoldable pub thereafter : Then → Talk Outcome
thereafter (to ph) = resume ph
thereafter (ends o) = return o
thereafter (refuses n carries) = stop n carries

unfoldable pub reporting : Option (ℕ × ℕ) → Talk Outcome → Talk Outcome
reporting none m = m
reporting (some p) m = report p.0 p.1 m

unfoldable pub resumed : Next → Talk Outcome
resumed next = reporting next.progress (thereafter next.then)

-- The step on what is heard, which is refused with 14 if the id is too long.
listen-sim : (p : Prefix) (f : Heard → Talk Outcome) (next : Heard → Then) → ((h : Heard) → f h ≡ thereafter (next h))
    → listen p >>= f ≡ ask (select p) (λ h. thereafter (unless_long h (next h)))
unfolding listen Walk.ask Talk.walking ◌>>=◌ thereafter
listen-sim p f next e = λ i. ask (select p) (λ h. go h (long h) i)
  where
    go : (h : Heard) (b : Bool) → Talk.walking (cond b (Walk.stop 14) (Walk.return h)) >>= f
        ≡ thereafter (cond b (refuses 14 []) (next h))
    go h true = refl
    go h false = e h

sought-sim : (uid : Option Id) (h : Heard) → met uid h ≡ thereafter (sought uid h)
unfolding met sought thereafter resume resume_search
sought-sim none nothing = refl
sought-sim (some given) nothing = refl
sought-sim uid (one id) = refl
sought-sim none unaddressed = refl
sought-sim (some given) unaddressed = refl
sought-sim uid garble = refl

backed-sim : (uid : Option Id) → several uid ≡ thereafter (backed uid)
unfolding thereafter
backed-sim none = refl
backed-sim (some given) = refl

walked-sim : (n : Machine.Next) → Talk.walking (MachineIsWalk.resumed n) >>= finding ≡ thereafter (walked n)
unfolding thereafter resume resume_search MachineIsWalk.resumed Talk.walking ◌>>=◌
walked-sim (going s) = refl
walked-sim (ended (done ids)) = refl
walked-sim (ended (stopped c)) = refl

-- The search's Select is the conversation's, and both go on alike, whatever is heard.
pub search-step : (s : Search) → resume_search s ≡ ask (select (selected s)) (λ h. thereafter (hears s h))
unfolding resume_search selected hears thereafter select_only deselect attach Talk.walking ◌>>=◌
search-step (probing bytes bits) = listen-sim (take bits (bits_of bytes)) _ (λ h. ends (Talk.heard h)) (λ h. refl)
search-step parting = refl
search-step (seeking uid) = listen-sim (prefix_of uid) (met uid) (sought uid) (sought-sim uid)
search-step (backing uid) = λ i. ask (select Walk.nobody) (λ h. backed-sim uid i)
search-step (walking s) = ap (λ (w : Walk (List Id)). Talk.walking w >>= finding) (MachineIsWalk.resume-step s)
    ∙ (λ i. ask (select (Machine.request s)) (λ h. walked-sim (Machine.step s h) i))

-- A test that may refuse.
refuse_if-sim : (b : Bool) (n : ℕ) (carries : List ℕ) (m : Talk Outcome) (t : Then) → m ≡ thereafter t
    → refuse_if b n carries >> m ≡ thereafter (cond b (refuses n carries) t)
unfolding refuse_if thereafter ◌>>=◌
refuse_if-sim true n carries m t e = refl
refuse_if-sim false n carries m t e = e

-- A request with one answer.
transact-sim : (d : Demand) (f : List ℕ × List ℕ → Talk Outcome) (j : Job)
    → ((payload image : List ℕ) → f (payload, image) ≡ resumed (accepted j payload image))
    → ((status : ℕ) → stop 2 (status ∷ []) ≡ thereafter (declined j status))
    → transact d >>= f ≡ ask (demand d) (λ a. resumed (told j a.reply a.image))
unfolding transact Flash.accepted told resumed reporting ◌>>=◌
transact-sim d f j e r = λ i. ask (demand d) (λ a. go a.reply a.image i)
  where
    go : (r : Reply) (image : List ℕ) → Flash.accepted r image >>= f ≡ resumed (told j r image)
    go (ok payload) image = e payload image
    go (device status) image = r status

module _ (info : Info) (s : sound info ≡ true) where
  -- The Writes from an offset on.
  more-writes : (n offset : ℕ) → offset < padded n → writes_from n info offset ≡ resume_job (writing n info offset 0)
  unfolding resume_job each
  more-writes n offset l =
      ap (λ (xs : List ℕ). each xs (write_one info n) >> verifies n info)
      (below-cons (chunk info.max_payload) (padded n) offset (has-chunk info s) l)
      ∙ bind_assoc (write_one info n offset) _ _

  no_writes : (n offset : ℕ) → padded n ≤ offset → writes_from n info offset ≡ resume_job (verifying n info)
  unfolding resume_job each ◌>>=◌
  no_writes n offset l = ap (λ (xs : List ℕ). each xs (write_one info n) >> verifies n info)
      (below-nil (chunk info.max_payload) (padded n) offset l)

  writes-sim : (n : ℕ) → writes_from n info 0 ≡ thereafter (writes n info)
  unfolding writes thereafter resume padding
  writes-sim n = go (eqb n 0) refl
    where
      go : (b : Bool) → eqb n 0 ≡ b → writes_from n info 0
          ≡ thereafter (cond b (working (verifying n info)) (working (writing n info 0 0)))
      go true e = no_writes n 0 (let z : n ≡ 0 = eqb-true n 0 e in omega arith)
      go false e = more-writes n 0 (omega (arith, eqb-false n 0 e))

  wrote-sim : (n offset : ℕ) → report (offset / chunk info.max_payload + 1)
      (steps (chunk info.max_payload) (padded n)) (writes_from n info (offset + chunk info.max_payload))
      ≡ resumed (wrote n info offset)
  unfolding wrote resumed reporting thereafter resume
  wrote-sim n offset = ap (report (offset / chunk info.max_payload + 1)
      (steps (chunk info.max_payload) (padded n))) (go (leb (padded n - offset) (chunk info.max_payload)) refl)
    where
      go : (b : Bool) → leb (padded n - offset) (chunk info.max_payload) ≡ b
          → writes_from n info (offset + chunk info.max_payload)
          ≡ thereafter (cond b (working (verifying n info))
          (working (writing n info (offset + chunk info.max_payload) 0)))
      go true e = no_writes n (offset + chunk info.max_payload)
          (omega (arith, leb-true (padded n - offset) (chunk info.max_payload) e))
      go false e = more-writes n (offset + chunk info.max_payload)
          (omega (arith, leb-false (padded n - offset) (chunk info.max_payload) e))

  -- The Erases from an address on.
  cleared-sim : (why : Purpose) → after_erase why info ≡ thereafter (cleared why info)
  unfolding after_erase cleared thereafter write_all offsets
  cleared-sim tell = refl
  cleared-sim clear = refl
  cleared-sim (load n) = writes-sim n

  more-erases : (why : Purpose) (address : ℕ) → address < info.capacity
      → erases_from why info address ≡ resume_job (erasing why info address)
  unfolding resume_job each
  more-erases why address l =
      ap (λ (xs : List ℕ). each xs (erase_one info) >> after_erase why info)
      (below-cons info.erase_size info.capacity address (sound-sizes info s).erase_size l)
      ∙ bind_assoc (erase_one info address) _ _

  no-erases : (why : Purpose) (address : ℕ) → info.capacity ≤ address
      → erases_from why info address ≡ thereafter (cleared why info)
  unfolding each ◌>>=◌
  no-erases why address l =
      ap (λ (xs : List ℕ). each xs (erase_one info) >> after_erase why info)
      (below-nil info.erase_size info.capacity address l)
      ∙ cleared-sim why

  erased-sim : (why : Purpose) (address : ℕ)
      → report (erase_progress info address) info.capacity (erases_from why info (address + info.erase_size))
      ≡ resumed (erased why info address)
  unfolding erased resumed reporting thereafter resume
  erased-sim why address = ap (report (erase_progress info address) info.capacity)
      (go (ltb (address + info.erase_size) info.capacity) refl)
    where
      go : (b : Bool) → ltb (address + info.erase_size) info.capacity ≡ b
          → erases_from why info (address + info.erase_size)
          ≡ thereafter (cond b (working (erasing why info (address + info.erase_size))) (cleared why info))
      go true e = more-erases why (address + info.erase_size) (ltb-true (address + info.erase_size) info.capacity e)
      go false e = no-erases why (address + info.erase_size) (ltb-false (address + info.erase_size) info.capacity e)

  erases-sim : (why : Purpose) → erase_all info >> after_erase why info ≡ thereafter (erases why info)
  unfolding erase_all erase_addresses erases thereafter resume
  erases-sim why =
      bind_assoc (refuse_if (spans_too_far info) 19 []) _ _
      ∙ refuse_if-sim (spans_too_far info) 19 [] _ (working (erasing why info 0))
      (more-erases why 0 (sound-sizes info s).capacity)

-- The rest of the conversation after the Info.
after_info : Purpose → Info → List ℕ → Talk Outcome
after_info tell info image = known info
after_info clear info image = erase_all info >> known info
after_info (load n) info image =
    refuse_if (too_large info n) 3 (reported n ∷ info.capacity ∷ []) >>
    (refuse_if (incompatible info image) 6 (keys info image) >> (erase_all info >> after_erase (load n) info))

whole-sim : (why : Purpose) → whole why ≡ inform >>= λ r. after_info why r.0 r.1
unfolding whole after_info after_erase inform_only erase flash prepare ◌>>=◌
whole-sim tell = refl
whole-sim clear = refl
whole-sim (load n) = simp bind_assoc

prepared-sim : (why : Purpose) (info : Info) (image : List ℕ) → sound info ≡ true
    → after_info why info image ≡ thereafter (prepared why info image)
unfolding after_info after_erase prepared judged thereafter
prepared-sim tell info image s = refl
prepared-sim clear info image s = erases-sim info s clear
prepared-sim (load n) info image s =
    refuse_if-sim (too_large info n) 3 _ _
    (cond (incompatible info image) (refuses 6 (keys info image)) (erases (load n) info))
    (refuse_if-sim (incompatible info image) 6 _ _ (erases (load n) info) (erases-sim info s (load n)))

-- The device information, with the image lent with it.
abbrev beside : List ℕ → Info → Talk (Info × List ℕ)
beside image info = return (info, image)

informed-sim : (why : Purpose) (payload image : List ℕ)
    → on_some (informed payload) (stop 5 []) (beside image) >>= (λ r. after_info why r.0 r.1)
    ≡ thereafter (on_some (informed payload) (refuses 5 []) (λ info. prepared why info image))
unfolding informed thereafter ◌>>=◌
informed-sim why payload image = go (leb 18 (length payload)) (sound (info_of payload)) refl
  where
    go : (a b : Bool) → sound (info_of payload) ≡ b
        → on_some (cond (a && b) (some (info_of payload)) none) (stop 5 []) (beside image) >>=
        (λ r. after_info why r.0 r.1)
        ≡ thereafter (on_some (cond (a && b) (some (info_of payload)) none) (refuses 5 [])
        (λ info. prepared why info image))
    go true true e = prepared-sim why (info_of payload) image e
    go true false e = refl
    go false b e = refl

verified-sim : (info : Info) (payload image : List ℕ)
    → refuse_if (ltb (length payload) 2) 18 [] >>
    (refuse_if (not (eqb (check image) (field 0 2 payload))) 4 (check image ∷ field 0 2 payload ∷ []) >> known info)
    ≡ thereafter (verified info payload image)
unfolding verified thereafter refuse_if ◌>>=◌
verified-sim info payload image =
    refuse_if-sim (ltb (length payload) 2) 18 [] _ _ (go (eqb (check image) (field 0 2 payload)))
  where
    go : (b : Bool) → refuse_if (not b) 4 (check image ∷ field 0 2 payload ∷ []) >> known info
        ≡ thereafter (cond b (ends (knows info)) (refuses 4 (check image ∷ field 0 2 payload ∷ [])))
    go true = refl
    go false = refl

-- A Write that may still be repeated some times, and what follows it.
module _ (n : ℕ) (info : Info) (offset : ℕ) (s : sound info ≡ true) where
  counted : Talk Outcome
  counted = report (offset / chunk info.max_payload + 1) (steps (chunk info.max_payload) (padded n))
      (writes_from n info (offset + chunk info.max_payload))

  writing-sim : (retries : ℕ) → resume_job (writing n info offset retries)
      ≡ persist (suc (16 - retries)) (write_request info n offset) >> counted
  unfolding resume_job write_within counted ◌>>=◌
  writing-sim retries = bind_assoc (persist (suc (16 - retries)) (write_request info n offset)) _ _

  repeated-sim : (retries : ℕ) (r : Reply) (image : List ℕ)
      → Flash.repeated r (persist (16 - retries) (write_request info n offset)) >> counted
      ≡ resumed (told (writing n info offset retries) r image)
  unfolding Flash.repeated told accepted declined repeated resumed reporting thereafter resume counted persist ◌>>=◌
  repeated-sim retries (ok payload) image = wrote-sim info s n offset
  repeated-sim retries (device status) image = go (eqb status 3) (ltb retries 16) refl
    where
      go : (b more : Bool) → ltb retries 16 ≡ more
          → cond b (persist (16 - retries) (write_request info n offset)) (stop 2 (status ∷ [])) >> counted
          ≡ thereafter (cond b (cond more (working (writing n info offset (suc retries))) (refuses 17 []))
          (refuses 2 (status ∷ [])))
      go true true e =
          let k : 16 - retries ≡ suc (16 - suc retries) = omega (arith, ltb-true retries 16 e) in
          rw k (sym (writing-sim (suc retries)))
      go true false e =
          let k : 16 - retries ≡ 0 = omega (arith, ltb-false retries 16 e) in
          rw k
      go false more e = refl

-- The job's request is the conversation's, and both go on alike after each answer.
pub job-step : (j : Job) → SoundJob j
    → resume_job j ≡ ask (demand (demanded j)) (λ a. resumed (told j a.reply a.image))
unfolding resume_job demanded accepted declined resumed reporting thereafter inform erase_one persist verify reset ◌>>=◌
job-step (informing why) s =
    whole-sim why ∙ bind_assoc (transact info_request) _ _
    ∙ transact-sim info_request _ (informing why) (informed-sim why) (λ status. refl)
job-step (erasing why info address) s =
    bind_assoc (transact (erase_request info address)) _ _
    ∙ transact-sim (erase_request info address) _ (erasing why info address)
    (λ payload image. erased-sim info s why address) (λ status. refl)
job-step (writing n info offset retries) s =
    writing-sim n info offset s retries
    ∙ (λ i. ask (demand (write_request info n offset))
    (λ a. repeated-sim n info offset s retries a.reply a.image i))
job-step (verifying n info) s =
    simp bind_assoc (transact-sim (verify_request n) _ (verifying n info) (verified-sim info) (λ status. refl))
job-step (resetting bootloader baud) s =
    transact-sim (reset_request bootloader baud) _ (resetting bootloader baud) (λ payload image. refl) (λ status. refl)

-- The phase's request is the conversation's, and both go on alike after each answer.
pub resume-step : (ph : Phase) → Sound ph → resume ph ≡ ask (request ph) (λ a. resumed (step ph a))
unfolding resume step resumed reporting thereafter reset
resume-step (selecting s) k = search-step s
resume-step (demanding j) k = job-step j k
resume-step (leaving bootloader baud) k = refl

pub resume-discover : (given : Id) → discover given ≡ resume (selecting (walking (starting (bits_of given))))
unfolding discover resume resume_search Machine.start MachineIsWalk.resumed
resume-discover given = ap (λ (w : Walk (List Id)). Talk.walking w >>= finding)
    (MachineIsWalk.resume-start (bits_of given))
