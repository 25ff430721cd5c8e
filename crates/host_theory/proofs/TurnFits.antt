-- A turn fits: the ranges of its numbers, stated for the turn itself.
use Prim.Native.Nat.{ℕ, ◌<◌, ◌^◌}
use mathlib.Core.Bool.{false}
use native.Mathlib.Omega.{arith}
use Rattle.walk.specs.declared.Phase.TheVariants.{Asked, Mine, Other, Leaving}
use Rattle.client.specs.declared.Search.{Search}
use Rattle.client.specs.declared.Search.TheVariants.{Probing, Parting, Seeking, Backing, Walking}
use Rattle.client.specs.declared.Purpose.{Purpose}
use Rattle.client.specs.declared.Purpose.TheVariants.{Tell, Clear, Load}
use Rattle.client.specs.declared.Job.{Job}
use Rattle.client.specs.declared.Job.TheVariants.{Informing, Erasing, Writing, Verifying, Resetting}
use Rattle.client.specs.declared.Phase.{Phase}
use Rattle.client.specs.declared.Phase.TheVariants.{Select, Demand, Leave}
use Rattle.client.specs.declared.Turn.{Turn}
use Rattle.client.specs.declared.Turn.TheVariants.{Idle, Ready, Waiting}
use Rattle.image.specs.InfoBytes.{no_info}
use Rattle.host_turn.specs.Turns.{no_reset, demanding, leaving, tag_of, size_of, walking_of, search_flat, job_flat}
use Rattle.image.specs.InfoBytes.{InfoFits}
use Rattle.host_turn.specs.Turns.{phase_flat, flat_of, FlatFits}
use Rattle.host_turn.proofs.Laws.{selecting-fits, no-info-fits, demanding-fits, leaving-fits}

abbrev pub PurposeFits : Purpose → Type 0
PurposeFits why = size_of why < 2 ^ 64

abbrev pub JobFits : Job → Type 0
JobFits (Informing why) = PurposeFits why
JobFits (Erasing why info address) = PurposeFits why × (InfoFits info × (address < 2 ^ 32))
JobFits (Writing n info offset retries) = (n < 2 ^ 64) × (InfoFits info × ((offset < 2 ^ 64) × (retries < 2 ^ 8)))
JobFits (Verifying n info) = (n < 2 ^ 64) × InfoFits info
JobFits (Resetting reset) = reset.baud < 2 ^ 8

abbrev pub PhaseFits : Phase → Type 0
PhaseFits (Select s) = Unit {0}
PhaseFits (Demand j) = JobFits j
PhaseFits (Leave reset) = reset.baud < 2 ^ 8

abbrev pub TurnFits : Turn → Type 0
TurnFits Idle = Unit {0}
TurnFits (Ready p) = PhaseFits p
TurnFits (Waiting p) = PhaseFits p

-- If a turn fits, so do its numbers.
tag_small : (why : Purpose) → tag_of why < 2 ^ 8
unfolding tag_of
tag_small Tell = omega arith
tag_small Clear = omega arith
tag_small (Load n) = omega arith

module _ (turn : ℕ) (small : turn < 2 ^ 8) where
  search-flat : (s : Search) → FlatFits (search_flat turn s)
  unfolding search_flat walking_of
  search-flat Probing = selecting-fits turn small 0 0 false false (omega arith) (omega arith)
  search-flat Parting = selecting-fits turn small 1 0 false false (omega arith) (omega arith)
  search-flat (Seeking given) = selecting-fits turn small 2 0 given false (omega arith) (omega arith)
  search-flat (Backing given) = selecting-fits turn small 3 0 given false (omega arith) (omega arith)
  search-flat (Walking Asked) = selecting-fits turn small 4 0 false false (omega arith) (omega arith)
  search-flat (Walking Mine) = selecting-fits turn small 4 1 false false (omega arith) (omega arith)
  search-flat (Walking (Other other)) = selecting-fits turn small 4 2 false other (omega arith) (omega arith)
  search-flat (Walking Leaving) = selecting-fits turn small 4 3 false false (omega arith) (omega arith)

  job-flat : (j : Job) → JobFits j → FlatFits (job_flat turn j)
  unfolding job_flat no_reset
  job-flat (Informing why) h =
      demanding-fits turn small 0 (tag_of why) (size_of why) 0 0 0 no_info no_reset (omega arith)
      (tag_small why) h no-info-fits (omega arith) (omega arith) (omega arith) (omega arith)
  job-flat (Erasing why info address) h =
      demanding-fits turn small 1 (tag_of why) (size_of why) address 0 0 info no_reset (omega arith) (tag_small why)
      h.0 h.1.0 h.1.1 (omega arith) (omega arith) (omega arith)
  job-flat (Writing n info offset retries) h =
      demanding-fits turn small 2 0 n 0 offset retries info no_reset (omega arith) (omega arith) h.0 h.1.0
      (omega arith) h.1.1.0 h.1.1.1 (omega arith)
  job-flat (Verifying n info) h =
      demanding-fits turn small 3 0 n 0 0 0 info no_reset (omega arith) (omega arith) h.0 h.1 (omega arith)
      (omega arith) (omega arith) (omega arith)
  job-flat (Resetting reset) h =
      demanding-fits turn small 4 0 0 0 0 0 no_info reset (omega arith) (omega arith) (omega arith) no-info-fits
      (omega arith) (omega arith) (omega arith) h

  phase-flat : (p : Phase) → PhaseFits p → FlatFits (phase_flat turn p)
  unfolding phase_flat
  phase-flat (Select s) h = search-flat s
  phase-flat (Demand j) h = job-flat j h
  phase-flat (Leave reset) h = leaving-fits turn small reset h

pub turn-flat : (t : Turn) → TurnFits t → FlatFits (flat_of t)
unfolding flat_of
turn-flat Idle h = selecting-fits 0 (omega arith) 0 0 false false (omega arith) (omega arith)
turn-flat (Ready p) h = phase-flat 1 (omega arith) p h
turn-flat (Waiting p) h = phase-flat 2 (omega arith) p h

-- If its numbers fit, so does the turn.
job-back : (turn : ℕ) (j : Job) → FlatFits (job_flat turn j) → JobFits j
unfolding job_flat demanding
job-back turn (Informing why) h = h.size
job-back turn (Erasing why info address) h = (h.size, (h.info, h.address))
job-back turn (Writing n info offset retries) h = (h.size, (h.info, (h.offset, h.retries)))
job-back turn (Verifying n info) h = (h.size, h.info)
job-back turn (Resetting reset) h = h.baud

phase-back : (turn : ℕ) (p : Phase) → FlatFits (phase_flat turn p) → PhaseFits p
unfolding phase_flat leaving
phase-back turn (Select s) h = tt
phase-back turn (Demand j) h = job-back turn j h
phase-back turn (Leave reset) h = h.baud

pub turn-back : (t : Turn) → FlatFits (flat_of t) → TurnFits t
unfolding flat_of
turn-back Idle h = tt
turn-back (Ready p) h = phase-back 1 p h
turn-back (Waiting p) h = phase-back 2 p h
