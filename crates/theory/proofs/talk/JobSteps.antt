-- A job's step leads to another job, to the end of the operation, or to one of eight refusals.
use Prim.Native.Nat.{ℕ, ◌+◌, ◌-◌}
use mathlib.Core.Bool.{Bool, true, false, ◌&&◌, cond}
use mathlib.Core.List.{List, [], ◌∷◌}
use mathlib.Core.Option.{none, some}
use mathlib.Core.Path.{◌≡◌, refl}
use lib.Dec.{leb, ltb, eqb}
use lib.ListN.{length}
use Rattle.lore.proofs.Choice.{either}
use Rattle.paper.specs.Answers.{Reply, ok, device, sound, informed, spans_too_far, too_large, reported, incompatible}
use Rattle.paper.specs.Answers.{chunk, padded}
use Rattle.paper.specs.Flash.{keys}
use Rattle.paper.specs.Frame.{field, check, Info, info_of}
use Rattle.paper.specs.Hearing.{on_some}
use Rattle.paper.specs.Talk.{quiet, knows}
use Rattle.theory.specs.OperationMachine.{Purpose, tell, clear, load, Job, informing, erasing, writing, verifying}
use Rattle.theory.specs.OperationMachine.{resetting, Then, ends, refuses, working, erases, judged, prepared}
use Rattle.theory.specs.OperationMachine.{writes, cleared, erased, wrote, repeated, verified, accepted, declined}
use Rattle.theory.specs.OperationMachine.{told}
use Rattle.theory.specs.ClientMachine.{lent_to}
use Rattle.theory.proofs.talk.MachineIsTalk.{SoundJob}

-- Q holds of each way in which a job can end: with nothing, with device information, with a refusal.
pub record Ends (Q : Then → Type 0) : Type 0 where
  pub quiet : Q (ends quiet)
  pub knows : (info : Info) → Q (ends (knows info))
  pub device : (status : ℕ) → Q (refuses 2 (status ∷ []))
  pub large : (n : ℕ) (info : Info) → Q (refuses 3 (reported n ∷ info.capacity ∷ []))
  pub check : (payload image : List ℕ) → Q (refuses 4 (check image ∷ field 0 2 payload ∷ []))
  pub unsound : Q (refuses 5 [])
  pub incompatible : (info : Info) (image : List ℕ) → Q (refuses 6 (keys info image))
  pub spent : Q (refuses 17 [])
  pub short : Q (refuses 18 [])
  pub far : Q (refuses 19 [])

-- It does if it holds of the first two and of every refusal.
pub any-end : (Q : Then → Type 0) → Q (ends quiet) → ((info : Info) → Q (ends (knows info)))
    → ((n : ℕ) (carries : List ℕ) → Q (refuses n carries)) → Ends Q
any-end Q e k r = record {
  quiet = e;
  knows = k;
  device = λ status. r 2 (status ∷ []);
  large = λ n info. r 3 (reported n ∷ info.capacity ∷ []);
  check = λ payload image. r 4 (check image ∷ field 0 2 payload ∷ []);
  unsound = r 5 [];
  incompatible = λ info image. r 6 (keys info image);
  spent = r 17 [];
  short = r 18 [];
  far = r 19 [];
}

-- The job k may follow j: its device information satisfies the Info rule if that of j does, and it needs an image of
-- the same length.
abbrev pub After : Job → Job → Type 0
After j k = (SoundJob j → SoundJob k) × (lent_to k ≡ lent_to j)

module _ (Q : Then → Type 0) (q : Ends Q) where
  erases-leads : (why : Purpose) (info : Info) → Q (working (erasing why info 0)) → Q (erases why info)
  unfolding erases
  erases-leads why info e = either Q (spans_too_far info) q.far e

  prepared-leads : (why : Purpose) (info : Info) (image : List ℕ) → Q (working (erasing why info 0))
      → Q (prepared why info image)
  unfolding prepared judged
  prepared-leads tell info image e = q.knows info
  prepared-leads clear info image e = erases-leads clear info e
  prepared-leads (load n) info image e =
      either Q (too_large info n) (q.large n info)
      (either Q (incompatible info image) (q.incompatible info image) (erases-leads (load n) info e))

  informed-leads : (why : Purpose) (payload image : List ℕ)
      → (sound (info_of payload) ≡ true → Q (working (erasing why (info_of payload) 0)))
      → Q (on_some (informed payload) (refuses 5 []) (λ info. prepared why info image))
  unfolding informed
  informed-leads why payload image e = go (leb 18 (length payload)) (sound (info_of payload)) refl
    where
      go : (a b : Bool) → sound (info_of payload) ≡ b
          → Q (on_some (cond (a && b) (some (info_of payload)) none) (refuses 5 []) (λ info. prepared why info image))
      go true true s = prepared-leads why (info_of payload) image (e s)
      go true false s = q.unsound
      go false b s = q.unsound

  cleared-leads : (why : Purpose) (info : Info) (address : ℕ)
      → ((k : Job) → After (erasing why info address) k → Q (working k)) → Q (cleared why info)
  unfolding cleared writes
  cleared-leads tell info address f = q.knows info
  cleared-leads clear info address f = q.knows info
  cleared-leads (load n) info address f =
      either Q (eqb n 0) (f (verifying n info) (λ s. s, refl)) (f (writing n info 0 0) (λ s. s, refl))

  accepted-leads : (j : Job) → ((k : Job) → After j k → Q (working k)) → (payload image : List ℕ)
      → Q (accepted j payload image).then
  unfolding accepted erased wrote verified
  accepted-leads (informing why) f payload image =
      informed-leads why payload image (λ e. f (erasing why (info_of payload) 0) (λ s. e, refl))
  accepted-leads (erasing why info address) f payload image =
      either Q (ltb (address + info.erase_size) info.capacity)
      (f (erasing why info (address + info.erase_size)) (λ s. s, refl)) (cleared-leads why info address f)
  accepted-leads (writing n info offset retries) f payload image =
      either Q (leb (padded n - offset) (chunk info.max_payload)) (f (verifying n info) (λ s. s, refl))
      (f (writing n info (offset + chunk info.max_payload) 0) (λ s. s, refl))
  accepted-leads (verifying n info) f payload image =
      either Q (ltb (length payload) 2) q.short
      (either Q (eqb (check image) (field 0 2 payload)) (q.knows info) (q.check payload image))
  accepted-leads (resetting bootloader baud) f payload image = q.quiet

  declined-leads : (j : Job) → ((k : Job) → After j k → Q (working k)) → (status : ℕ) → Q (declined j status)
  unfolding declined repeated
  declined-leads (informing why) f status = q.device status
  declined-leads (erasing why info address) f status = q.device status
  declined-leads (writing n info offset retries) f status =
      either Q (eqb status 3) (either Q (ltb retries 16) (f (writing n info offset _) (λ s. s, refl)) q.spent)
      (q.device status)
  declined-leads (verifying n info) f status = q.device status
  declined-leads (resetting bootloader baud) f status = q.device status

  -- If Q holds of each end and of each job that may follow, it holds of what follows.
  pub told-leads : (j : Job) → ((k : Job) → After j k → Q (working k)) → (r : Reply) (image : List ℕ)
      → Q (told j r image).then
  unfolding told
  told-leads j f (ok payload) image = accepted-leads j f payload image
  told-leads j f (device status) image = declined-leads j f status
