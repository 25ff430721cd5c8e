-- What holds of every id that a client is given or hears holds of every id that it keeps.
use Prim.Native.Nat.{ℕ, ◌*◌}
use mathlib.Core.Bool.{Bool, true, false, ◌&&◌, cond}
use mathlib.Core.List.{List, []}
use mathlib.Core.Option.{Option, none, some}
use lib.Dec.{leb, ltb}
use lib.ListN.{length}
use Rattle.paper.specs.Client.{within_longest, id_after, other_length, cleared, reading, place}
use Rattle.paper.specs.Hearing.{Id, bits_of, hear, on_some, Heard, nothing, one, unaddressed, garble}
use Rattle.paper.specs.Talk.{Ask, select, demand, leave, AnswerTo, quiet, heard, attached, found, knows}
use Rattle.paper.specs.Walk.{long, done, stopped}
use Rattle.lore.proofs.Choice.{either}
use Rattle.theory.specs.WalkMachine as Machine
use Rattle.theory.specs.WalkMachine.{going, ended}
use Rattle.theory.specs.OperationMachine as OperationMachine
use Rattle.theory.specs.OperationMachine.{Search, probing, parting, seeking, backing, walking, tell, clear, load}
use Rattle.theory.specs.OperationMachine.{informing, resetting, Phase, selecting, demanding, leaving, Then, to}
use Rattle.theory.specs.OperationMachine.{ends, refuses, sought, walked, hears, step, starting}
use Rattle.theory.specs.ClientMachine.{OfAny, Turn, idle, ready, waiting, Client, fresh, turned, lends, settle}
use Rattle.theory.specs.ClientMachine.{unchanged, fails, start, start_select, start_deselect, start_attach}
use Rattle.theory.specs.ClientMachine.{start_discover, start_info, start_erase, start_flash, resets, start_reset}
use Rattle.theory.specs.ClientMachine.{start_set_baud, Asked, handed_out, grant, request, record', link_failed}
use Rattle.theory.proofs.walk.CarriedIds.{Telling, Carries, CarriesNext, step-carries}
use Rattle.theory.proofs.talk.JobSteps.{any-end, told-leads}

abbrev pub HoldsSearch : (Id → Type 0) → Search → Type 0
HoldsSearch P (probing bytes bits) = P bytes
HoldsSearch P parting = Unit {0}
HoldsSearch P (seeking uid) = OfAny P uid
HoldsSearch P (backing uid) = OfAny P uid
HoldsSearch P (walking s) = Carries P s

abbrev pub HoldsPhase : (Id → Type 0) → Phase → Type 0
HoldsPhase P (selecting s) = HoldsSearch P s
HoldsPhase P (demanding j) = Unit {0}
HoldsPhase P (leaving bootloader baud) = Unit {0}

abbrev pub HoldsTurn : (Id → Type 0) → Turn → Type 0
HoldsTurn P idle = Unit {0}
HoldsTurn P (ready ph) = HoldsPhase P ph
HoldsTurn P (waiting ph) = HoldsPhase P ph

pub record Holds (P : Id → Type 0) (c : Client) : Type 0 where
  pub id : OfAny P c.id
  pub turn : HoldsTurn P c.turn

abbrev HoldsThen : (Id → Type 0) → Then → Type 0
HoldsThen P (to ph) = HoldsPhase P ph
HoldsThen P (ends quiet) = Unit {0}
HoldsThen P (ends (heard h)) = Unit {0}
HoldsThen P (ends (attached uid)) = OfAny P uid
HoldsThen P (ends (found ids)) = Unit {0}
HoldsThen P (ends (knows info)) = Unit {0}
HoldsThen P (refuses n carries) = Unit {0}

module _ (P : Id → Type 0) where
  sought-holds : (uid : Option Id) → OfAny P uid → (h : Heard) → Telling P h → HoldsThen P (sought uid h)
  unfolding sought
  sought-holds none b nothing t = tt
  sought-holds (some given) b nothing t = tt
  sought-holds uid b (one id) t = t
  sought-holds none b unaddressed t = tt
  sought-holds (some given) b unaddressed t = tt
  sought-holds uid b garble t = b

  walked-holds : (n : Machine.Next) → CarriesNext P n → HoldsThen P (walked n)
  walked-holds (going s) c = c
  walked-holds (ended (done ids)) c = tt
  walked-holds (ended (stopped n)) c = tt

  search-holds : (s : Search) → HoldsSearch P s → (h : Heard) → Telling P h → HoldsThen P (hears s h)
  unfolding hears
  search-holds (probing bytes bits) k h t = either (HoldsThen P) (long h) tt tt
  search-holds parting k h t = tt
  search-holds (seeking uid) k h t = either (HoldsThen P) (long h) tt (sought-holds uid k h t)
  search-holds (backing none) k h t = tt
  search-holds (backing (some given)) k h t = tt
  search-holds (walking s) k h t = walked-holds (Machine.step s h) (step-carries P s k h t)

  settle-holds : (c : Client) (progress : Option (ℕ × ℕ)) (t : Then) (at : ℕ) → OfAny P c.id → HoldsThen P t
      → Holds P (settle c progress t at).client
  unfolding settle id_after
  settle-holds c progress (to ph) at b k = record { id = b; turn = k }
  settle-holds c progress (ends quiet) at b k = record { id = b; turn = tt }
  settle-holds c progress (ends (heard h)) at b k = record { id = b; turn = tt }
  settle-holds c progress (ends (attached uid)) at b k = record { id = k; turn = tt }
  settle-holds c progress (ends (found ids)) at b k = record { id = b; turn = tt }
  settle-holds c progress (ends (knows info)) at b k = record { id = b; turn = tt }
  settle-holds c progress (refuses n carries) at b k = record { id = b; turn = tt }

  pub fresh_holds : Holds P fresh
  unfolding fresh
  fresh_holds = record { id = tt; turn = tt }

  start-holds : (c : Client) → Holds P c → (good : Bool) (ph : Phase) → HoldsPhase P ph
      → Holds P (start c good ph).client
  unfolding start
  start-holds c k good ph p = go c.turn k.turn good
    where
      go : (t : Turn) → HoldsTurn P t → (b : Bool) → Holds P (start (turned c t) b ph).client
      go idle w true = settle-holds (turned c idle) none (to ph) 0 k.id p
      go idle w false = record { id = k.id; turn = tt }
      go (ready q) w b = record { id = k.id; turn = w }
      go (waiting q) w b = record { id = k.id; turn = w }

  module _ (c : Client) (k : Holds P c) where
    pub start_select-holds : (bytes : Id) (bits : ℕ) → P bytes → Holds P (start_select c bytes bits).client
    unfolding start_select
    start_select-holds bytes bits p =
        start-holds c k (within_longest bytes && (leb bits 128 && leb bits (8 * length bytes)))
        (selecting (probing bytes bits)) p

    pub start_deselect-holds : Holds P (start_deselect c).client
    unfolding start_deselect
    start_deselect-holds = start-holds c k true (selecting parting) tt

    pub start_attach-holds : (uid : Option Id) → OfAny P uid → Holds P (start_attach c uid).client
    unfolding start_attach
    start_attach-holds uid p = start-holds c k (on_some uid true within_longest) (selecting (seeking uid)) p

    pub start_discover-holds : (given : Id) → Holds P (start_discover c given).client
    unfolding start_discover
    start_discover-holds given = start-holds c k (within_longest given) (selecting (walking (starting (bits_of given))))
        (record { ids = tt; candidate = tt })

    pub start_info-holds : Holds P (start_info c).client
    unfolding start_info
    start_info-holds = start-holds c k true (demanding (informing tell)) tt

    pub start_erase-holds : Holds P (start_erase c).client
    unfolding start_erase
    start_erase-holds = start-holds c k true (demanding (informing clear)) tt

    pub start_flash-holds : (image : List ℕ) → Holds P (start_flash c image).client
    unfolding start_flash
    start_flash-holds image = start-holds c k true (demanding (informing (load (length image)))) tt

    resets-holds : (bootloader : Bool) (baud : Option ℕ) (in_boot : Bool)
        → Holds P (start c true (resets bootloader baud in_boot)).client
    resets-holds bootloader baud true = start-holds c k true (demanding (resetting bootloader baud)) tt
    resets-holds bootloader baud false = start-holds c k true (leaving bootloader baud) tt

    pub start_reset-holds : (bootloader in_boot : Bool) → Holds P (start_reset c bootloader in_boot).client
    unfolding start_reset
    start_reset-holds bootloader in_boot = resets-holds bootloader none in_boot

    pub start_set_baud-holds : (baud : ℕ) (bootloader in_boot : Bool)
        → Holds P (start_set_baud c baud bootloader in_boot).client
    unfolding start_set_baud
    start_set_baud-holds baud bootloader in_boot = resets-holds bootloader (some baud) in_boot

    handed-holds : (ph : Phase) → HoldsPhase P ph → HoldsTurn P (handed_out ph)
    unfolding handed_out
    handed-holds (selecting s) w = w
    handed-holds (demanding j) w = w
    handed-holds (leaving bootloader baud) w = tt

    grant-holds : (ph : Phase) → HoldsPhase P ph → (bytes : List ℕ) (seed : ℕ) (buffer : List ℕ)
        → Holds P (grant (turned c (ready ph)) bytes seed ph buffer).client
    unfolding grant
    grant-holds ph w bytes seed buffer =
        either (λ (a : Asked). Holds P a.client) (ltb (length buffer) (length bytes))
        (record { id = k.id; turn = w }) (record { id = k.id; turn = handed-holds ph w })

    pub request-holds : (image buffer : List ℕ) → Holds P (request c image buffer).client
    unfolding request
    request-holds image buffer = go c.turn k.turn
      where
        go : (t : Turn) → HoldsTurn P t → Holds P (request (turned c t) image buffer).client
        go idle w = record { id = k.id; turn = w }
        go (ready ph) w = either (λ (a : Asked). Holds P a.client) (other_length (lends ph) image)
            (record { id = k.id; turn = w }) (grant-holds ph w _ _ buffer)
        go (waiting ph) w = record { id = k.id; turn = w }

    any-cleared : (q : Ask) → OfAny P (cleared q c.id)
    any-cleared (select p) = either (OfAny P) (ltb 128 (length p)) tt k.id
    any-cleared (demand d) = k.id
    any-cleared (leave d) = k.id

    pub record-holds : (image bytes : List ℕ) → Telling P (hear bytes) → Holds P (record' c image bytes).client
    unfolding record' step
    record-holds image bytes h = go c.turn k.turn
      where
        go : (t : Turn) → HoldsTurn P t → Holds P (record' (turned c t) image bytes).client
        go idle w = record { id = k.id; turn = w }
        go (ready ph) w = record { id = k.id; turn = w }
        go (waiting (selecting s)) w =
            settle-holds _ none (hears s (hear bytes)) (length bytes)
            (any-cleared (OperationMachine.request (selecting s)))
            (search-holds s w (hear bytes) h)
        go (waiting (demanding j)) w =
            lent (other_length (lends (demanding j)) image)
            (reading (OperationMachine.request (demanding j)) image bytes)
          where
            before : Client
            before = turned c (waiting (demanding j))

            at : ℕ
            at = place (OperationMachine.request (demanding j)) bytes

            lent : (b : Bool) (o : Option (AnswerTo (OperationMachine.request (demanding j))))
                → Holds P (cond b (unchanged before 20 [])
                (on_some o (fails before at) (λ a. settle before (step (demanding j) a).progress
                (step (demanding j) a).then at))).client
            lent true o = record { id = k.id; turn = w }
            lent false none = record { id = k.id; turn = tt }
            lent false (some a) =
                settle-holds before (step (demanding j) a).progress (step (demanding j) a).then at k.id
                (told-leads (HoldsThen P) (any-end _ tt (λ info. tt) (λ n carries. tt)) j (λ i after. tt) a.reply
                a.image)
        go (waiting (leaving bootloader baud)) w = settle-holds _ none (ends quiet) (length bytes) k.id tt

    pub link_failed-holds : Holds P (link_failed c).client
    unfolding link_failed
    link_failed-holds = go c.turn k.turn
      where
        go : (t : Turn) → HoldsTurn P t → Holds P (link_failed (turned c t)).client
        go idle w = record { id = k.id; turn = w }
        go (ready ph) w = record { id = k.id; turn = w }
        go (waiting ph) w = record { id = k.id; turn = tt }
