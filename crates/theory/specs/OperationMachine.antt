-- The operations as a machine: a phase for each request that can be next or out, the request, and the step on its
-- answer.
use Rattle.std.specs.Prelude.{ℕ, suc, ◌+◌, ◌-◌, ◌/◌, Bool, cond, List, [], ◌∷◌, leb, ltb, eqb, length, take}
use Rattle.std.proofs.Math.Option.{Option, none, some}
use Rattle.paper.specs.Answers.{Reply, ok, device, informed, steps, spans_too_far, erase_progress, too_large, reported}
use Rattle.paper.specs.Answers.{incompatible, chunk, padded}
use Rattle.paper.specs.Attach.{prefix_of}
use Rattle.paper.specs.Flash.{info_request, erase_request, write_request, verify_request, reset_request, keys}
use Rattle.paper.specs.Frame.{field, check, Info, status-CrcMismatch}
use Rattle.paper.specs.Hearing.{Id, Prefix, bits_of, on_some, Heard, nothing, one, unaddressed, garble}
use Rattle.paper.specs.Talk.{Demand, Ask, select, demand, leave, AnswerTo, Outcome, quiet, heard, attached, found}
use Rattle.paper.specs.Talk.{knows}
use Rattle.paper.specs.Walk.{long, nobody, done, stopped}
use Rattle.theory.specs.WalkMachine as Machine
use Rattle.theory.specs.WalkMachine.{State, asked, going, ended}

-- A plain select of the first n bits of some bytes; a deselect; an attach at its Select; an attach at its deselect; a
-- discovery.
pub data Search : Type 0 where
  probing : Id → ℕ → Search
  parting : Search
  seeking : Option Id → Search
  backing : Option Id → Search
  walking : State → Search

-- Why Info is requested: for itself, for an erase, or for a flash of an image of n bytes.
pub data Purpose : Type 0 where
  tell : Purpose
  clear : Purpose
  load : ℕ → Purpose

-- What a request with one answer is for. An Erase has its address. A Write has the image's length, its offset, and how
-- often it was repeated. A Reset says whether it enters the bootloader, and has the baud to store or none.
pub data Job : Type 0 where
  informing : Purpose → Job
  erasing : Purpose → Info → ℕ → Job
  writing : ℕ → Info → ℕ → ℕ → Job
  verifying : ℕ → Info → Job
  resetting : Bool → Option ℕ → Job

-- The request that is next or out: a Select, a request with one answer, or one whose answer is not awaited.
pub data Phase : Type 0 where
  selecting : Search → Phase
  demanding : Job → Phase
  leaving : Bool → Option ℕ → Phase

-- The bits that a search selects.
unfoldable pub selected : Search → Prefix
selected (probing bytes bits) = take bits (bits_of bytes)
selected parting = nobody
selected (seeking uid) = prefix_of uid
selected (backing uid) = nobody
selected (walking s) = Machine.request s

unfoldable pub demanded : Job → Demand
demanded (informing why) = info_request
demanded (erasing why info address) = erase_request info address
demanded (writing n info offset retries) = write_request info n offset
demanded (verifying n info) = verify_request n
demanded (resetting bootloader baud) = reset_request bootloader baud

abbrev pub request : Phase → Ask
request (selecting s) = select (selected s)
request (demanding j) = demand (demanded j)
request (leaving bootloader baud) = leave (reset_request bootloader baud)

-- The operation goes on in a phase, ends with an outcome, or ends with a refusal's number and what that carries.
pub data Then : Type 0 where
  to : Phase → Then
  ends : Outcome → Then
  refuses : ℕ → List ℕ → Then

-- What follows an answer, with the progress made.
pub record Next : Type 0 where
  pub progress : Option (ℕ × ℕ)
  pub then : Then

abbrev pub quietly : Then → Next
quietly t = record { progress = none; then = t }

-- The steps on what is heard after a Select.

abbrev pub unless_long : Heard → Then → Then
unless_long h t = cond (long h) (refuses 14 []) t

unfoldable pub sought : Option Id → Heard → Then
sought uid nothing = on_some uid (refuses 7 []) (λ given. refuses 9 given)
sought uid (one id) = ends (attached (some id))
sought uid unaddressed = on_some uid (ends (attached none)) (λ given. refuses 11 [])
sought uid garble = to (selecting (backing uid))

abbrev pub backed : Option Id → Then
backed uid = on_some uid (refuses 8 []) (λ given. refuses 10 given)

abbrev pub walked : Machine.Next → Then
walked (going s) = to (selecting (walking s))
walked (ended (done ids)) = ends (found ids)
walked (ended (stopped c)) = refuses c []

unfoldable pub hears : Search → Heard → Then
hears (probing bytes bits) h = unless_long h (ends (heard h))
hears parting h = ends quiet
hears (seeking uid) h = unless_long h (sought uid h)
hears (backing uid) h = backed uid
hears (walking s) h = walked (Machine.step s h)

-- The steps on the answer to a request with one answer.

abbrev pub working : Job → Then
working j = to (demanding j)

unfoldable pub erases : Purpose → Info → Then
erases why info = cond (spans_too_far info) (refuses 19 []) (working (erasing why info 0))

unfoldable pub judged : ℕ → Info → List ℕ → Then
judged n info image =
    cond (too_large info n) (refuses 3 (reported n ∷ info.capacity ∷ []))
    (cond (incompatible info image) (refuses 6 (keys info image)) (erases (load n) info))

unfoldable pub prepared : Purpose → Info → List ℕ → Then
prepared tell info image = ends (knows info)
prepared clear info image = erases clear info
prepared (load n) info image = judged n info image

-- An empty image has no Write.
unfoldable pub writes : ℕ → Info → Then
writes n info = cond (eqb n 0) (working (verifying n info)) (working (writing n info 0 0))

unfoldable pub cleared : Purpose → Info → Then
cleared tell info = ends (knows info)
cleared clear info = ends (knows info)
cleared (load n) info = writes n info

unfoldable pub erased : Purpose → Info → ℕ → Next
erased why info address = record {
  progress = some (erase_progress info address, info.capacity);
  then = cond (ltb (address + info.erase_size) info.capacity)
      (working (erasing why info (address + info.erase_size))) (cleared why info);
}

unfoldable pub wrote : ℕ → Info → ℕ → Next
wrote n info offset = record {
  progress = some (offset / chunk info.max_payload + 1, steps (chunk info.max_payload) (padded n));
  then =
      cond (leb (padded n - offset) (chunk info.max_payload)) (working (verifying n info))
      (working (writing n info (offset + chunk info.max_payload) 0));
}

unfoldable pub repeated : ℕ → Info → ℕ → ℕ → Then
repeated n info offset retries = cond (ltb retries 16) (working (writing n info offset (suc retries))) (refuses 17 [])

unfoldable pub verified : Info → List ℕ → List ℕ → Then
verified info payload image =
    cond (ltb (length payload) 2) (refuses 18 [])
    (cond (eqb (check image) (field 0 2 payload)) (ends (knows info))
    (refuses 4 (check image ∷ field 0 2 payload ∷ [])))

-- The step on an answer of status Ok, with its payload and the image lent with it.
unfoldable pub accepted : Job → List ℕ → List ℕ → Next
accepted (informing why) payload image =
    quietly (on_some (informed payload) (refuses 5 []) (λ info. prepared why info image))
accepted (erasing why info address) payload image = erased why info address
accepted (writing n info offset retries) payload image = wrote n info offset
accepted (verifying n info) payload image = quietly (verified info payload image)
accepted (resetting bootloader baud) payload image = quietly (ends quiet)

abbrev pub declines : ℕ → Then
declines status = refuses 2 (status ∷ [])

-- The step on an answer of another status.
unfoldable pub declined : Job → ℕ → Then
declined (informing why) status = declines status
declined (erasing why info address) status = declines status
declined (writing n info offset retries) status =
    cond (eqb status status-CrcMismatch) (repeated n info offset retries) (declines status)
declined (verifying n info) status = declines status
declined (resetting bootloader baud) status = declines status

unfoldable pub told : Job → Reply → List ℕ → Next
told j (ok payload) image = accepted j payload image
told j (device status) image = quietly (declined j status)

unfoldable pub step : (ph : Phase) → AnswerTo (request ph) → Next
step (selecting s) h = quietly (hears s h)
step (demanding j) a = told j a.reply a.image
step (leaving bootloader baud) handed = quietly (ends quiet)

-- A discovery at its first Select.
abbrev pub starting : Prefix → State
starting pre = record { pre = pre; marks = []; ids = []; phase = asked }
