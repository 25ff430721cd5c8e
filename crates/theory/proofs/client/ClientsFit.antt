-- Every client that the machine's calls lead to fits the code's client: the seed, the ids, the bit count and the walk.
use Prim.Native.Nat.{ℕ, ◌*◌, ◌≤◌, ◌<◌}
use mathlib.Core.Bool.{Bool, true, false, ◌&&◌, cond}
use mathlib.Core.List.{List, []}
use mathlib.Core.Option.{Option, none, some}
use mathlib.Core.Path.{◌≡◌, refl}
use native.Mathlib.Omega.{arith}
use lib.Dec.{leb, ltb}
use lib.ListN.{length}
use borrow.Author.Tests.{ltb-false, leb-true}
use Rattle.paper.specs.Client.{within_longest, id_after, other_length, seed_after, cleared, reading, place}
use Rattle.paper.specs.Hearing.{Id, bits_of, on_some, Heard, nothing, one, unaddressed, garble}
use Rattle.paper.specs.Talk.{Ask, select, demand, leave, AnswerTo, Outcome, quiet, heard, attached, found, knows}
use Rattle.paper.specs.Walk.{long, done, stopped}
use Rattle.paper.proofs.Bits.{bits-length}
use Rattle.lore.proofs.Choice.{by-test, either}
use Rattle.theory.specs.WalkMachine as Machine
use Rattle.theory.specs.WalkMachine.{going, ended}
use Rattle.theory.specs.OperationMachine as OperationMachine
use Rattle.theory.specs.OperationMachine.{Search, probing, parting, seeking, backing, walking, tell, clear, load}
use Rattle.theory.specs.OperationMachine.{informing, resetting, Phase, selecting, demanding, leaving, Then, to}
use Rattle.theory.specs.OperationMachine.{ends, refuses, sought, walked, hears, step, starting}
use Rattle.theory.specs.ClientMachine.{Brief, Turn, idle, ready, waiting, Client, fresh, turned, lends, settle}
use Rattle.theory.specs.ClientMachine.{unchanged, fails, start, start_select, start_deselect, start_attach}
use Rattle.theory.specs.ClientMachine.{start_discover, start_info, start_erase, start_flash, resets, start_reset}
use Rattle.theory.specs.ClientMachine.{start_set_baud, Asked, handed_out, grant, request, record', link_failed}
use Rattle.theory.proofs.walk.StatesFit as StatesFit
use Rattle.theory.proofs.walk.StatesFit.{Short, FitsNext, step_fits}
use Rattle.theory.proofs.talk.MachineIsTalk.{Sound, SoundJob}
use Rattle.theory.proofs.talk.JobSteps.{any-end, told-leads}
use Rattle.theory.proofs.client.MachineIsClient.{SoundTurn}

abbrev pub FitsSearch : Search → Type 0
FitsSearch (probing bytes bits) = Short bytes × (bits ≤ 8 * length bytes)
FitsSearch parting = Unit {0}
FitsSearch (seeking uid) = Brief uid
FitsSearch (backing uid) = Brief uid
FitsSearch (walking s) = StatesFit.Fits s

abbrev pub FitsPhase : Phase → Type 0
FitsPhase (selecting s) = FitsSearch s
FitsPhase (demanding j) = SoundJob j
FitsPhase (leaving bootloader baud) = Unit {0}

abbrev pub FitsTurn : Turn → Type 0
FitsTurn idle = Unit {0}
FitsTurn (ready ph) = FitsPhase ph
FitsTurn (waiting ph) = FitsPhase ph

pub record Fits (c : Client) : Type 0 where
  pub seed : c.seed < 256
  pub id : Brief c.id
  pub turn : FitsTurn c.turn

fits-sound : (ph : Phase) → FitsPhase ph → Sound ph
fits-sound (selecting s) f = tt
fits-sound (demanding j) f = f
fits-sound (leaving bootloader baud) f = tt

-- The device information of a turn that fits satisfies the Info rule.
pub turn-sound : (t : Turn) → FitsTurn t → SoundTurn t
turn-sound idle f = tt
turn-sound (ready ph) f = fits-sound ph f
turn-sound (waiting ph) f = fits-sound ph f

-- The ids of an outcome fit.
abbrev pub FitsOutcome : Outcome → Type 0
FitsOutcome quiet = Unit {0}
FitsOutcome (heard h) = long h ≡ false
FitsOutcome (attached uid) = Brief uid
FitsOutcome (found ids) = FitsNext (ended (done ids))
FitsOutcome (knows info) = Unit {0}

abbrev pub FitsThen : Then → Type 0
FitsThen (to ph) = FitsPhase ph
FitsThen (ends o) = FitsOutcome o
FitsThen (refuses n carries) = Unit {0}

sought-fits : (uid : Option Id) → Brief uid → (h : Heard) → long h ≡ false → FitsThen (sought uid h)
unfolding sought long
sought-fits none b nothing e = tt
sought-fits (some given) b nothing e = tt
sought-fits uid b (one id) e = ltb-false 16 (length id) e
sought-fits none b unaddressed e = tt
sought-fits (some given) b unaddressed e = tt
sought-fits uid b garble e = b

walked-fits : (n : Machine.Next) → FitsNext n → FitsThen (walked n)
walked-fits (going s) f = f
walked-fits (ended (done ids)) f = f
walked-fits (ended (stopped c)) f = tt

pub search-fits : (s : Search) → FitsSearch s → (h : Heard) → FitsThen (hears s h)
unfolding hears
search-fits (probing bytes bits) f h = by-test FitsThen (long h) (λ e. tt) (λ e. e)
search-fits parting f h = tt
search-fits (seeking uid) f h = by-test FitsThen (long h) (λ e. tt) (sought-fits uid f h)
search-fits (backing none) f h = tt
search-fits (backing (some given)) f h = tt
search-fits (walking s) f h = walked-fits (Machine.step s h) (step_fits s h f)

pub phase-fits : (ph : Phase) → FitsPhase ph → (a : AnswerTo (OperationMachine.request ph)) → FitsThen (step ph a).then
unfolding step
phase-fits (selecting s) f h = search-fits s f h
phase-fits (demanding j) f a =
    told-leads FitsThen (any-end _ tt (λ info. tt) (λ n carries. tt)) j (λ k w. w.0 f) a.reply a.image
phase-fits (leaving bootloader baud) f a = tt

settle-fits : (c : Client) (progress : Option (ℕ × ℕ)) (t : Then) (at : ℕ) → c.seed < 256 → Brief c.id → FitsThen t
    → Fits (settle c progress t at).client
unfolding settle id_after
settle-fits c progress (to ph) at s b f = record { seed = s; id = b; turn = f }
settle-fits c progress (ends quiet) at s b f = record { seed = s; id = b; turn = tt }
settle-fits c progress (ends (heard h)) at s b f = record { seed = s; id = b; turn = tt }
settle-fits c progress (ends (attached uid)) at s b f = record { seed = s; id = f; turn = tt }
settle-fits c progress (ends (found ids)) at s b f = record { seed = s; id = b; turn = tt }
settle-fits c progress (ends (knows info)) at s b f = record { seed = s; id = b; turn = tt }
settle-fits c progress (refuses n carries) at s b f = record { seed = s; id = b; turn = tt }

pub fresh-fits : Fits fresh
unfolding fresh
fresh-fits = record { seed = omega arith; id = tt; turn = tt }

start_fits : (c : Client) → Fits c → (good : Bool) (ph : Phase) → (good ≡ true → FitsPhase ph)
    → Fits (start c good ph).client
unfolding start
start_fits c f good ph g = go c.turn f.turn good g
  where
    go : (t : Turn) → FitsTurn t → (b : Bool) → (b ≡ true → FitsPhase ph) → Fits (start (turned c t) b ph).client
    go idle w true g = settle-fits (turned c idle) none (to ph) 0 f.seed f.id (g refl)
    go idle w false g = record { seed = f.seed; id = f.id; turn = tt }
    go (ready p) w b g = record { seed = f.seed; id = f.id; turn = w }
    go (waiting p) w b g = record { seed = f.seed; id = f.id; turn = w }

module _ (c : Client) (f : Fits c) where
  pub start_select-fits : (bytes : Id) (bits : ℕ) → Fits (start_select c bytes bits).client
  unfolding start_select
  start_select-fits bytes bits = start_fits c f (within_longest bytes && (leb bits 128 && leb bits (8 * length bytes)))
      (selecting (probing bytes bits)) (go (within_longest bytes) (leb bits 128) (leb bits (8 * length bytes)) refl refl)
    where
      go : (a b d : Bool) → within_longest bytes ≡ a → leb bits (8 * length bytes) ≡ d → (a && (b && d)) ≡ true
          → FitsSearch (probing bytes bits)
      go true true true x z e = (leb-true (length bytes) 16 x, leb-true bits (8 * length bytes) z)
      go true true false x z e = absurd (let n : ◌≡◌ {A = ℕ} 0 1 = cc in omega arith)
      go true false d x z e = absurd (let n : ◌≡◌ {A = ℕ} 0 1 = cc in omega arith)
      go false b d x z e = absurd (let n : ◌≡◌ {A = ℕ} 0 1 = cc in omega arith)

  pub start_deselect-fits : Fits (start_deselect c).client
  unfolding start_deselect
  start_deselect-fits = start_fits c f true (selecting parting) (λ e. tt)

  pub start_attach-fits : (uid : Option Id) → Fits (start_attach c uid).client
  unfolding start_attach
  start_attach-fits none = start_fits c f true (selecting (seeking none)) (λ e. tt)
  start_attach-fits (some given) =
      start_fits c f (within_longest given) (selecting (seeking (some given))) (λ e. leb-true (length given) 16 e)

  pub start_discover-fits : (given : Id) → Fits (start_discover c given).client
  unfolding start_discover
  start_discover-fits given = start_fits c f (within_longest given) (selecting (walking (starting (bits_of given))))
      (λ e. first (leb-true (length given) 16 e))
    where
      first : Short given → StatesFit.Fits (starting (bits_of given))
      first s = record { depth = omega (arith, bits-length given); few = omega arith; short = tt; held = tt }

  pub start_info-fits : Fits (start_info c).client
  unfolding start_info
  start_info-fits = start_fits c f true (demanding (informing tell)) (λ e. tt)

  pub start_erase-fits : Fits (start_erase c).client
  unfolding start_erase
  start_erase-fits = start_fits c f true (demanding (informing clear)) (λ e. tt)

  pub start_flash-fits : (image : List ℕ) → Fits (start_flash c image).client
  unfolding start_flash
  start_flash-fits image = start_fits c f true (demanding (informing (load (length image)))) (λ e. tt)

  resets-fits : (bootloader : Bool) (baud : Option ℕ) (in_boot : Bool)
      → Fits (start c true (resets bootloader baud in_boot)).client
  resets-fits bootloader baud true = start_fits c f true (demanding (resetting bootloader baud)) (λ e. tt)
  resets-fits bootloader baud false = start_fits c f true (leaving bootloader baud) (λ e. tt)

  pub start_reset-fits : (bootloader in_boot : Bool) → Fits (start_reset c bootloader in_boot).client
  unfolding start_reset
  start_reset-fits bootloader in_boot = resets-fits bootloader none in_boot

  pub start_set_baud-fits : (baud : ℕ) (bootloader in_boot : Bool) → Fits (start_set_baud c baud bootloader in_boot).client
  unfolding start_set_baud
  start_set_baud-fits baud bootloader in_boot = resets-fits bootloader (some baud) in_boot

  seed-fits : (q : Ask) → seed_after q c.seed < 256
  seed-fits (select p) = omega arith
  seed-fits (demand d) = f.seed
  seed-fits (leave d) = f.seed

  handed-fits : (ph : Phase) → FitsPhase ph → FitsTurn (handed_out ph)
  unfolding handed_out
  handed-fits (selecting s) w = w
  handed-fits (demanding j) w = w
  handed-fits (leaving bootloader baud) w = tt

  grant-fits : (ph : Phase) → FitsPhase ph → (bytes : List ℕ) (seed : ℕ) → seed < 256 → (buffer : List ℕ)
      → Fits (grant (turned c (ready ph)) bytes seed ph buffer).client
  unfolding grant
  grant-fits ph w bytes seed small buffer =
      either (λ (a : Asked). Fits a.client) (ltb (length buffer) (length bytes))
      (record { seed = f.seed; id = f.id; turn = w }) (record { seed = small; id = f.id; turn = handed-fits ph w })

  pub request-fits : (image buffer : List ℕ) → Fits (request c image buffer).client
  unfolding request
  request-fits image buffer = go c.turn f.turn
    where
      go : (t : Turn) → FitsTurn t → Fits (request (turned c t) image buffer).client
      go idle w = record { seed = f.seed; id = f.id; turn = w }
      go (ready ph) w =
          either (λ (a : Asked). Fits a.client) (other_length (lends ph) image)
          (record { seed = f.seed; id = f.id; turn = w })
          (grant-fits ph w _ _ (seed-fits (OperationMachine.request ph)) buffer)
      go (waiting ph) w = record { seed = f.seed; id = f.id; turn = w }

  brief-cleared : (q : Ask) → Brief (cleared q c.id)
  brief-cleared (select p) = either Brief (ltb 128 (length p)) tt f.id
  brief-cleared (demand d) = f.id
  brief-cleared (leave d) = f.id

  pub record-fits : (image bytes : List ℕ) → Fits (record' c image bytes).client
  unfolding record'
  record-fits image bytes = go c.turn f.turn
    where
      go : (t : Turn) → FitsTurn t → Fits (record' (turned c t) image bytes).client
      go idle w = record { seed = f.seed; id = f.id; turn = w }
      go (ready ph) w = record { seed = f.seed; id = f.id; turn = w }
      go (waiting ph) w = lent (other_length (lends ph) image) (reading (OperationMachine.request ph) image bytes)
        where
          before : Client
          before = turned c (waiting ph)

          after : Client
          after = record { seed = c.seed; id = cleared (OperationMachine.request ph) c.id; turn = waiting ph }

          lent : (b : Bool) (o : Option (AnswerTo (OperationMachine.request ph)))
              → Fits (cond b (unchanged before 20 [])
              (on_some o (fails before (place (OperationMachine.request ph) bytes))
              (λ a. settle after (step ph a).progress (step ph a).then
              (place (OperationMachine.request ph) bytes)))).client
          lent true o = record { seed = f.seed; id = f.id; turn = w }
          lent false none = record { seed = f.seed; id = f.id; turn = tt }
          lent false (some a) = settle-fits after (step ph a).progress (step ph a).then
              (place (OperationMachine.request ph) bytes) f.seed (brief-cleared (OperationMachine.request ph))
              (phase-fits ph w a)

  pub link_failed-fits : Fits (link_failed c).client
  unfolding link_failed
  link_failed-fits = go c.turn f.turn
    where
      go : (t : Turn) → FitsTurn t → Fits (link_failed (turned c t)).client
      go idle w = record { seed = f.seed; id = f.id; turn = w }
      go (ready ph) w = record { seed = f.seed; id = f.id; turn = w }
      go (waiting ph) w = record { seed = f.seed; id = f.id; turn = tt }
