-- The numbers of a turn give that turn back, and the turn of numbers that fit has numbers that fit.
use Prim.Native.Nat.{ℕ, ◌<◌, ◌^◌}
use mathlib.Core.Bool.{Bool, false, cond}
use mathlib.Core.Path.{◌≡◌, refl, ◌∙◌, ap}
use lib.Dec.{eqb}
use native.Mathlib.Omega.{arith}
use Rattle.lore.proofs.Choice.{either}
use Rattle.walk.specs.declared.Phase as Walk
use Rattle.walk.specs.declared.Phase.TheVariants.{Asked, Mine, Other, Leaving}
use Rattle.image.specs.declared.Info.{Info}
use Rattle.client.specs.declared.Search.{Search}
use Rattle.client.specs.declared.Search.TheVariants.{Probing, Parting, Seeking, Backing, Walking}
use Rattle.client.specs.declared.Purpose.{Purpose}
use Rattle.client.specs.declared.Purpose.TheVariants.{Tell, Clear, Load}
use Rattle.client.specs.declared.Reset.{Reset}
use Rattle.client.specs.declared.Job.{Job}
use Rattle.client.specs.declared.Job.TheVariants.{Informing, Erasing, Writing, Verifying, Resetting}
use Rattle.client.specs.declared.Phase.{Phase}
use Rattle.client.specs.declared.Phase.TheVariants.{Select, Demand, Leave}
use Rattle.client.specs.declared.Turn.{Turn}
use Rattle.client.specs.declared.Turn.TheVariants.{Idle, Ready, Waiting}
use Rattle.host_turn.specs.declared.Flat.{Flat}
use Rattle.image.specs.InfoBytes.{no_info}
use Rattle.host_turn.specs.Turns.{no_reset, jobless, selecting, demanding, leaving, tag_of, size_of}
use Rattle.host_turn.specs.Turns.{walking_of, search_flat, job_flat, phase_flat, flat_of, purpose_of, step_of, search_of}
use Rattle.image.specs.InfoBytes.{InfoFits}
use Rattle.host_turn.specs.Turns.{job_of, phase_of, turn_of, FlatFits}

purpose-of-flat : (why : Purpose) → purpose_of (tag_of why) (size_of why) ≡ why
unfolding purpose_of tag_of size_of
purpose-of-flat Tell = refl
purpose-of-flat Clear = refl
purpose-of-flat (Load n) = refl

search-of-flat : (turn : ℕ) (s : Search) → search_of (search_flat turn s) ≡ s
unfolding search_of step_of search_flat walking_of selecting
search-of-flat turn Probing = refl
search-of-flat turn Parting = refl
search-of-flat turn (Seeking given) = refl
search-of-flat turn (Backing given) = refl
search-of-flat turn (Walking Asked) = refl
search-of-flat turn (Walking Mine) = refl
search-of-flat turn (Walking (Other other)) = refl
search-of-flat turn (Walking Leaving) = refl

job-of-flat : (turn : ℕ) (j : Job) → job_of (job_flat turn j) ≡ j
unfolding job_of job_flat demanding
job-of-flat turn (Informing why) = ap Informing (purpose-of-flat why)
job-of-flat turn (Erasing why info address) = ap (λ (w : Purpose). Erasing w info address) (purpose-of-flat why)
job-of-flat turn (Writing n info offset retries) = refl
job-of-flat turn (Verifying n info) = refl
job-of-flat turn (Resetting reset) = refl

search-kind : (turn : ℕ) (s : Search) → ((search_flat turn s).kind ≡ 0) × ((search_flat turn s).turn ≡ turn)
unfolding search_flat walking_of selecting
search-kind turn Probing = (refl, refl)
search-kind turn Parting = (refl, refl)
search-kind turn (Seeking given) = (refl, refl)
search-kind turn (Backing given) = (refl, refl)
search-kind turn (Walking Asked) = (refl, refl)
search-kind turn (Walking Mine) = (refl, refl)
search-kind turn (Walking (Other other)) = (refl, refl)
search-kind turn (Walking Leaving) = (refl, refl)

job-kind : (turn : ℕ) (j : Job) → ((job_flat turn j).kind ≡ 1) × ((job_flat turn j).turn ≡ turn)
unfolding job_flat demanding
job-kind turn (Informing why) = (refl, refl)
job-kind turn (Erasing why info address) = (refl, refl)
job-kind turn (Writing n info offset retries) = (refl, refl)
job-kind turn (Verifying n info) = (refl, refl)
job-kind turn (Resetting reset) = (refl, refl)

-- The phase by its kind, and the turn by its number.
phase-by : (f : Flat) (k : ℕ) → f.kind ≡ k
    → phase_of f ≡ cond (eqb k 1) (Demand (job_of f)) (cond (eqb k 2) (Leave f.reset) (Select (search_of f)))
unfolding phase_of
phase-by f k e = ap (λ (k : ℕ). cond (eqb k 1) (Demand (job_of f))
    (cond (eqb k 2) (Leave f.reset) (Select (search_of f)))) e

turn_by : (f : Flat) (k : ℕ) → f.turn ≡ k
    → turn_of f ≡ cond (eqb k 1) (Ready (phase_of f)) (cond (eqb k 2) (Waiting (phase_of f)) Idle)
unfolding turn_of
turn_by f k e = ap (λ (k : ℕ). cond (eqb k 1) (Ready (phase_of f)) (cond (eqb k 2) (Waiting (phase_of f)) Idle)) e

phase-of-flat : (turn : ℕ) (p : Phase) → phase_of (phase_flat turn p) ≡ p
unfolding phase_of phase_flat leaving
phase-of-flat turn (Select s) =
    phase-by (search_flat turn s) 0 (search-kind turn s).0 ∙ ap Select (search-of-flat turn s)
phase-of-flat turn (Demand j) = phase-by (job_flat turn j) 1 (job-kind turn j).0 ∙ ap Demand (job-of-flat turn j)
phase-of-flat turn (Leave reset) = refl

phase-turn : (turn : ℕ) (p : Phase) → (phase_flat turn p).turn ≡ turn
unfolding phase_flat leaving
phase-turn turn (Select s) = (search-kind turn s).1
phase-turn turn (Demand j) = (job-kind turn j).1
phase-turn turn (Leave reset) = refl

pub turn-of-flat : (t : Turn) → turn_of (flat_of t) ≡ t
unfolding turn_of flat_of selecting
turn-of-flat Idle = refl
turn-of-flat (Ready p) = turn_by (phase_flat 1 p) 1 (phase-turn 1 p) ∙ ap Ready (phase-of-flat 1 p)
turn-of-flat (Waiting p) = turn_by (phase_flat 2 p) 2 (phase-turn 2 p) ∙ ap Waiting (phase-of-flat 2 p)

pub no-info-fits : InfoFits no_info
unfolding no_info
no-info-fits = record {
  capacity = omega arith;
  erase = omega arith;
  boot = omega arith;
  app = omega arith;
  mode = omega arith;
  baud = omega arith;
  compat = omega arith;
  payload = omega arith;
}

module _ (turn : ℕ) (small : turn < 2 ^ 8) where
  jobless-fits : (kind search step : ℕ) (given other : Bool) (z : Reset) → kind < 2 ^ 8 → search < 2 ^ 8 → step < 2 ^ 8
      → z.baud < 2 ^ 8
      → FlatFits (jobless turn kind search given step other z)
  jobless-fits kind search step given other z hk hs ht hz = record {
    turn = small;
    kind = hk;
    search = hs;
    step = ht;
    job = omega arith;
    purpose = omega arith;
    size = omega arith;
    info = no-info-fits;
    address = omega arith;
    offset = omega arith;
    retries = omega arith;
    baud = hz;
  }

  pub selecting-fits : (search step : ℕ) (given other : Bool) → search < 2 ^ 8 → step < 2 ^ 8
      → FlatFits (selecting turn search given step other)
  unfolding selecting no_reset
  selecting-fits search step given other hs ht =
      jobless-fits 0 search step given other no_reset (omega arith) hs ht (omega arith)

  pub leaving-fits : (z : Reset) → z.baud < 2 ^ 8 → FlatFits (leaving turn z)
  unfolding leaving
  leaving-fits z hz = jobless-fits 2 0 0 false false z (omega arith) (omega arith) (omega arith) hz

  pub demanding-fits : (job purpose size address offset retries : ℕ) (i : Info) (z : Reset) → job < 2 ^ 8
      → purpose < 2 ^ 8 → size < 2 ^ 64 → InfoFits i
      → address < 2 ^ 32 → offset < 2 ^ 64 → retries < 2 ^ 8 → z.baud < 2 ^ 8
      → FlatFits (demanding turn job purpose size i address offset retries z)
  unfolding demanding
  demanding-fits job purpose size address offset retries i z hj hp hs hi ha ho hr hz = record {
    turn = small;
    kind = omega arith;
    search = omega arith;
    step = omega arith;
    job = hj;
    purpose = hp;
    size = hs;
    info = hi;
    address = ha;
    offset = ho;
    retries = hr;
    baud = hz;
  }

-- The numbers of the turn that some numbers stand for.
module _ (f : Flat) (h : FlatFits f) where
  purpose-fits : (tag_of (purpose_of f.purpose f.size) < 2 ^ 8)
      × (size_of (purpose_of f.purpose f.size) < 2 ^ 64)
  unfolding purpose_of tag_of size_of
  purpose-fits = pick (eqb f.purpose 1) _ _ (omega arith, omega arith)
      (pick (eqb f.purpose 2) _ _ (omega arith, h.size) (omega arith, omega arith))
    where
      pick : (b : Bool) (x y : Purpose) → (tag_of x < 2 ^ 8) × (size_of x < 2 ^ 64)
          → (tag_of y < 2 ^ 8) × (size_of y < 2 ^ 64) → (tag_of (cond b x y) < 2 ^ 8) × (size_of (cond b x y) < 2 ^ 64)
      pick b x y = either (λ (w : Purpose). (tag_of w < 2 ^ 8) × (size_of w < 2 ^ 64)) b

  module _ (turn : ℕ) (small : turn < 2 ^ 8) where
    step_fits : FlatFits (walking_of turn (step_of f.step f.other))
    unfolding step_of walking_of
    step_fits = pick (eqb f.step 1) _ _ (one 1 false (omega arith))
        (pick (eqb f.step 2) _ _ (one 2 f.other (omega arith))
        (pick (eqb f.step 3) _ _ (one 3 false (omega arith)) (one 0 false (omega arith))))
      where
        pick : (b : Bool) (x y : Walk.Phase) → FlatFits (walking_of turn x) → FlatFits (walking_of turn y)
            → FlatFits (walking_of turn (cond b x y))
        pick b x y = either (λ (w : Walk.Phase). FlatFits (walking_of turn w)) b

        one : (step : ℕ) (other : Bool) → step < 2 ^ 8 → FlatFits (selecting turn 4 false step other)
        one step other ht = selecting-fits turn small 4 step false other (omega arith) ht

    search-fits : FlatFits (search_flat turn (search_of f))
    unfolding search_of search_flat
    search-fits =
        pick (eqb f.search 1) _ _ (one 1 false (omega arith))
        (pick (eqb f.search 2) _ _ (one 2 f.given (omega arith))
        (pick (eqb f.search 3) _ _ (one 3 f.given (omega arith))
        (pick (eqb f.search 4) _ _ step_fits (one 0 false (omega arith)))))
      where
        pick : (b : Bool) (x y : Search) → FlatFits (search_flat turn x) → FlatFits (search_flat turn y)
            → FlatFits (search_flat turn (cond b x y))
        pick b x y = either (λ (s : Search). FlatFits (search_flat turn s)) b

        one : (search : ℕ) (given : Bool) → search < 2 ^ 8 → FlatFits (selecting turn search given 0 false)
        one search given hs = selecting-fits turn small search 0 given false hs (omega arith)

    job-fits : FlatFits (job_flat turn (job_of f))
    unfolding job_of job_flat no_reset
    job-fits =
        pick (eqb f.job 1) _ _ (demanding-fits turn small 1 _ _ f.address 0 0 f.info no_reset (omega arith)
        purpose-fits.0 purpose-fits.1 h.info h.address (omega arith) (omega arith) (omega arith))
        (pick (eqb f.job 2) _ _ (demanding-fits turn small 2 0 f.size 0 f.offset f.retries
        f.info no_reset (omega arith) (omega arith) h.size h.info (omega arith) h.offset h.retries
        (omega arith))
        (pick (eqb f.job 3) _ _ (demanding-fits turn small 3 0 f.size 0 0 0 f.info no_reset (omega arith)
        (omega arith) h.size h.info (omega arith) (omega arith) (omega arith) (omega arith))
        (pick (eqb f.job 4) _ _ (demanding-fits turn small 4 0 0 0 0 0 no_info f.reset (omega arith) (omega arith)
        (omega arith) no-info-fits (omega arith) (omega arith) (omega arith) h.baud)
        (demanding-fits turn small 0 _ _ 0 0 0 no_info no_reset (omega arith) purpose-fits.0
        purpose-fits.1 no-info-fits (omega arith) (omega arith) (omega arith) (omega arith)))))
      where
        pick : (b : Bool) (x y : Job) → FlatFits (job_flat turn x) → FlatFits (job_flat turn y)
            → FlatFits (job_flat turn (cond b x y))
        pick b x y = either (λ (j : Job). FlatFits (job_flat turn j)) b

    phase-fits : FlatFits (phase_flat turn (phase_of f))
    unfolding phase_of phase_flat
    phase-fits = pick (eqb f.kind 1) _ _ job-fits
        (pick (eqb f.kind 2) _ _ (leaving-fits turn small f.reset h.baud) search-fits)
      where
        pick : (b : Bool) (x y : Phase) → FlatFits (phase_flat turn x) → FlatFits (phase_flat turn y)
            → FlatFits (phase_flat turn (cond b x y))
        pick b x y = either (λ (p : Phase). FlatFits (phase_flat turn p)) b

  pub turn-fits : FlatFits (flat_of (turn_of f))
  unfolding turn_of flat_of
  turn-fits = pick (eqb f.turn 1) _ _ (phase-fits 1 (omega arith))
      (pick (eqb f.turn 2) _ _ (phase-fits 2 (omega arith))
      (selecting-fits 0 (omega arith) 0 0 false false (omega arith) (omega arith)))
    where
      pick : (b : Bool) (x y : Turn) → FlatFits (flat_of x) → FlatFits (flat_of y) → FlatFits (flat_of (cond b x y))
      pick b x y = either (λ (t : Turn). FlatFits (flat_of t)) b
