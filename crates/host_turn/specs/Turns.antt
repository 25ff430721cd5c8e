-- A turn as numbers and flags, and the turn that any numbers and flags stand for.
use Rattle.std.specs.Prelude.{ℕ, ◌<◌, ◌^◌, Bool, false, cond, eqb}
use Rattle.walk.specs.declared.Phase as Walk
use Rattle.walk.specs.declared.Phase.TheVariants.{Asked, Mine, Other, Leaving}
use Rattle.image.specs.declared.Info.{Info}
use Rattle.image.specs.InfoBytes.{no_info, InfoFits}
use Rattle.client.specs.declared.Search.{Search}
use Rattle.client.specs.declared.Search.TheVariants.{Probing, Parting, Seeking, Backing, Walking}
use Rattle.client.specs.declared.Purpose.{Purpose}
use Rattle.client.specs.declared.Purpose.TheVariants.{Tell, Clear, Load}
use Rattle.client.specs.declared.Reset.{Reset}
use Rattle.client.specs.declared.Job.{Job}
use Rattle.client.specs.declared.Job.TheVariants.{Informing, Erasing, Writing, Verifying, Resetting}
use Rattle.client.specs.declared.Phase.{Phase}
use Rattle.client.specs.declared.Phase.TheVariants.{Select, Demand, Leave}
use Rattle.client.specs.declared.Turn.{Turn}
use Rattle.client.specs.declared.Turn.TheVariants.{Idle, Ready, Waiting}
use Rattle.host_turn.specs.declared.Flat.{Flat}

unfoldable pub no_reset : Reset
no_reset = record { bootloader = false; given = false; baud = 0 }

-- The numbers of a phase without a job: the fields of a job are zero.
abbrev pub jobless : ℕ → ℕ → ℕ → Bool → ℕ → Bool → Reset → Flat
jobless turn kind search given step other reset = record {
  turn = turn;
  kind = kind;
  search = search;
  given = given;
  step = step;
  other = other;
  job = 0;
  purpose = 0;
  size = 0;
  info = no_info;
  address = 0;
  offset = 0;
  retries = 0;
  reset = reset;
}

-- The numbers of a Select, of a request with one answer, and of a Reset whose reply is not awaited.
unfoldable pub selecting : ℕ → ℕ → Bool → ℕ → Bool → Flat
selecting turn search given step other = jobless turn 0 search given step other no_reset

unfoldable pub demanding : ℕ → ℕ → ℕ → ℕ → Info → ℕ → ℕ → ℕ → Reset → Flat
demanding turn job purpose size info address offset retries reset = record {
  turn = turn;
  kind = 1;
  search = 0;
  given = false;
  step = 0;
  other = false;
  job = job;
  purpose = purpose;
  size = size;
  info = info;
  address = address;
  offset = offset;
  retries = retries;
  reset = reset;
}

unfoldable pub leaving : ℕ → Reset → Flat
leaving turn reset = jobless turn 2 0 false 0 false reset

-- A turn as numbers.
unfoldable pub tag_of : Purpose → ℕ
tag_of Tell = 0
tag_of Clear = 1
tag_of (Load n) = 2

unfoldable pub size_of : Purpose → ℕ
size_of Tell = 0
size_of Clear = 0
size_of (Load n) = n

unfoldable pub walking_of : ℕ → Walk.Phase → Flat
walking_of turn Asked = selecting turn 4 false 0 false
walking_of turn Mine = selecting turn 4 false 1 false
walking_of turn (Other other) = selecting turn 4 false 2 other
walking_of turn Leaving = selecting turn 4 false 3 false

unfoldable pub search_flat : ℕ → Search → Flat
search_flat turn Probing = selecting turn 0 false 0 false
search_flat turn Parting = selecting turn 1 false 0 false
search_flat turn (Seeking given) = selecting turn 2 given 0 false
search_flat turn (Backing given) = selecting turn 3 given 0 false
search_flat turn (Walking step) = walking_of turn step

unfoldable pub job_flat : ℕ → Job → Flat
job_flat turn (Informing why) = demanding turn 0 (tag_of why) (size_of why) no_info 0 0 0 no_reset
job_flat turn (Erasing why info address) = demanding turn 1 (tag_of why) (size_of why) info address 0 0 no_reset
job_flat turn (Writing n info offset retries) = demanding turn 2 0 n info 0 offset retries no_reset
job_flat turn (Verifying n info) = demanding turn 3 0 n info 0 0 0 no_reset
job_flat turn (Resetting reset) = demanding turn 4 0 0 no_info 0 0 0 reset

unfoldable pub phase_flat : ℕ → Phase → Flat
phase_flat turn (Select search) = search_flat turn search
phase_flat turn (Demand job) = job_flat turn job
phase_flat turn (Leave reset) = leaving turn reset

unfoldable pub flat_of : Turn → Flat
flat_of Idle = selecting 0 0 false 0 false
flat_of (Ready phase) = phase_flat 1 phase
flat_of (Waiting phase) = phase_flat 2 phase

-- Numbers as a turn. A number that names no case is read as 0.
unfoldable pub purpose_of : ℕ → ℕ → Purpose
purpose_of purpose size = cond (eqb purpose 1) Clear (cond (eqb purpose 2) (Load size) Tell)

unfoldable pub step_of : ℕ → Bool → Walk.Phase
step_of step other = cond (eqb step 1) Mine (cond (eqb step 2) (Other other) (cond (eqb step 3) Leaving Asked))

unfoldable pub search_of : Flat → Search
search_of f =
    cond (eqb f.search 1) Parting
    (cond (eqb f.search 2) (Seeking f.given)
    (cond (eqb f.search 3) (Backing f.given)
    (cond (eqb f.search 4) (Walking (step_of f.step f.other)) Probing)))

unfoldable pub job_of : Flat → Job
job_of f =
    cond (eqb f.job 1) (Erasing (purpose_of f.purpose f.size) f.info f.address)
    (cond (eqb f.job 2) (Writing f.size f.info f.offset f.retries)
    (cond (eqb f.job 3) (Verifying f.size f.info)
    (cond (eqb f.job 4) (Resetting f.reset) (Informing (purpose_of f.purpose f.size)))))

unfoldable pub phase_of : Flat → Phase
phase_of f = cond (eqb f.kind 1) (Demand (job_of f)) (cond (eqb f.kind 2) (Leave f.reset) (Select (search_of f)))

unfoldable pub turn_of : Flat → Turn
turn_of f = cond (eqb f.turn 1) (Ready (phase_of f)) (cond (eqb f.turn 2) (Waiting (phase_of f)) Idle)

-- The ranges of the fields, as their types give them.
pub record FlatFits (f : Flat) : Type 0 where
  pub turn : f.turn < 2 ^ 8
  pub kind : f.kind < 2 ^ 8
  pub search : f.search < 2 ^ 8
  pub step : f.step < 2 ^ 8
  pub job : f.job < 2 ^ 8
  pub purpose : f.purpose < 2 ^ 8
  pub size : f.size < 2 ^ 64
  pub info : InfoFits f.info
  pub address : f.address < 2 ^ 32
  pub offset : f.offset < 2 ^ 64
  pub retries : f.retries < 2 ^ 8
  pub baud : f.reset.baud < 2 ^ 8
