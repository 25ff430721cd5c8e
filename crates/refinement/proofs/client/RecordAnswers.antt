-- The code's answer to a record, or to a failed link, is the machine's, for each client that fits.
use Prim.Native.Nat.{ℕ, ◌≤◌}
use mathlib.Core.Bool.{Bool, true, false, not, cond}
use mathlib.Core.List.{List, [], ◌∷◌}
use mathlib.Core.Option.{Option, none, some}
use mathlib.Core.Path.{◌≡◌, refl, sym, ◌∙◌, ap}
use native.Mathlib.Omega.{arith}
use lib.Dec.{ltb}
use lib.ListN.{length, take, length-append, length-take}
use borrow.Author.Tests.{le-ltb}
use Rattle.paper.specs.Client.{cleared, id_after, other_length, reading, place}
use Rattle.paper.specs.Hearing as Paper
use Rattle.paper.specs.Hearing.{Prefix, bits_of, hear, nothing, one, unaddressed, garble, on_some}
use Rattle.paper.specs.Talk.{select, heard}
use Rattle.paper.specs.Walk.{long, nobody, sort, done, stopped}
use Rattle.paper.proofs.Bits.{bits-length}
use Rattle.theory.specs.WalkMachine as Walk
use Rattle.theory.specs.WalkMachine.{State, path, asked, mine, other, leaving, going, ended, next_bit}
use Rattle.theory.specs.OperationMachine as OperationMachine
use Rattle.theory.specs.OperationMachine.{Search, probing, parting, seeking, backing, walking, Phase, selecting}
use Rattle.theory.specs.OperationMachine.{demanding, leaving, selected, Then, ends, refuses, sought, walked, hears}
use Rattle.theory.specs.OperationMachine.{step}
use Rattle.theory.specs.ClientMachine as Machine
use Rattle.theory.specs.ClientMachine.{Turn, idle, ready, waiting, turned, lends, settle, unchanged, fails}
use Rattle.theory.proofs.walk.StepEnds.{Undone, Staying, step-undone}
use Rattle.theory.proofs.walk.StatesFit as StatesFit
use Rattle.theory.proofs.walk.StatesFit.{Held}
use Rattle.theory.proofs.client.ClientsFit.{FitsSearch, FitsPhase, FitsTurn, Fits}
use Rattle.ids.specs.Ids.{id_from}
use Rattle.hearing.specs.declared.Hearing.TheVariants.{One, TooLong}
use Rattle.hearing.specs.declared.Hearing.{Hearing}
use Rattle.hearing.specs.Heard.{id_in, kind_of, one_heard, shown_heard}
use Rattle.walk_table.specs.Rows.{no_table}
use Rattle.walk_step.specs.Steps.{Next}
use Rattle.walk_step.specs.Steps as Steps
use Rattle.client.specs.declared.Client.{Client}
use Rattle.client.specs.declared.Outcome.TheVariants as Outcome
use Rattle.client.specs.declared.Refusal.TheVariants.{LongId, OtherImage}
use Rattle.client.specs.declared.Says.TheVariants.{Over, Refused}
use Rattle.client.specs.declared.Told.{Told}
use Rattle.client.specs.Clients as Clients
use Rattle.client.specs.Clients.{over, stops, onward}
use Rattle.client_record.specs.Record as Code
use Rattle.client_record.specs.Record.{attaches, stop_of}
use Rattle.refinement.specs.CodeWalk.{end_of, next_of}
use Rattle.refinement.specs.CodeClient.{search_in, phase_in, is_there, record_of, client_of, Shown, plainly}
use Rattle.refinement.specs.CodeClient.{refused_as, told_as}
use Rattle.refinement.proofs.client.JobAnswers.{other-sim, job-told}
use Rattle.refinement.proofs.walk.StepIsMachine.{step-sim, long-is}

-- Only a deselect clears the attached id.
pub keeps : (q : Prefix) (id : Option Paper.Id) → length q ≤ 128 → cleared (select q) id ≡ id
keeps q id h = ap (λ (b : Bool). cond b none id) (le-ltb 128 (length q) h)

pub clears : (id : Option Paper.Id) → cleared (select nobody) id ≡ none
unfolding nobody
clears id = refl

-- In every phase of a walk except the deselect, at most 128 bits are selected.
pub asking-bits : (s : State) → StatesFit.Fits s → Staying s.phase → length (Walk.request s) ≤ 128
unfolding Walk.request
asking-bits s f a = go s.phase f.held a
  where
    go : (p : Walk.Phase) → Held (path s.pre s.marks) p → Staying p
        → length (Walk.request (record { pre = s.pre; marks = s.marks; ids = s.ids; phase = p })) ≤ 128
    go asked w a = f.depth
    go (mine id) w a = omega (
      arith,
      w.0,
      w.1,
      length-append (path s.pre s.marks) (next_bit (path s.pre s.marks) id ∷ []),
    )
    go (other id good) w a = omega
        (arith, w.0, w.1, length-append (path s.pre s.marks) (not (next_bit (path s.pre s.marks) id) ∷ []))
    go leaving w a = absurd a

module _ (seed : ℕ) (id : Option Paper.Id) (at : ℕ) where
  -- A client with a Select out: the machine's, with an attached id, and the code's.
  abbrev out : Search → Option Paper.Id → Machine.Client
  out s x = record { seed = seed; id = x; turn = waiting (selecting s) }

  abbrev code : Search → Client
  code s = record_of seed id (waiting (selecting s))

  -- The code's answer to what is heard in a search, and the machine's.
  abbrev answers : Search → Paper.Heard → Told
  answers s h = Code.hears (code s) (search_in s) (kind_of (shown_heard h)) (id_in (shown_heard h)) at

  abbrev settles : Search → Option Paper.Id → Then → Told
  settles s x t = told_as (settle (out s x) none t at)

  probing-told : (bytes : Paper.Id) (bits : ℕ) (h : Paper.Heard)
      → answers (probing bytes bits) h ≡ settles (probing bytes bits) id (hears (probing bytes bits) h)
  unfolding Code.hears Code.probed hears settle id_after over Clients.idle refused_as
  probing-told bytes bits h = rw (long-is h) (go (long h))
    where
      c : Client
      c = code (probing bytes bits)

      go : (b : Bool)
          → cond b (stops c (Refused LongId) at)
          (over c (Over (Outcome.Heard (kind_of (shown_heard h)))) (id_in (shown_heard h)) no_table at)
          ≡ settles (probing bytes bits) id (cond b (refuses 14 []) (ends (heard h)))
      go true = refl
      go false = refl

  parting-told : (h : Paper.Heard) → answers parting h ≡ settles parting none (hears parting h)
  unfolding Code.hears hears settle id_after over Clients.idle Clients.cleared
  parting-told h = refl

  backing-told : (uid : Option Paper.Id) (h : Paper.Heard)
      → answers (backing uid) h ≡ settles (backing uid) none (hears (backing uid) h)
  unfolding Code.hears Code.backed hears settle over Clients.idle Clients.cleared refused_as
  backing-told none h = refl
  backing-told (some uid) h = refl

  seeking-told : (uid : Option Paper.Id) (h : Paper.Heard)
      → answers (seeking uid) h ≡ settles (seeking uid) id (hears (seeking uid) h)
  unfolding Code.hears Code.met attaches hears sought long settle id_after over onward Clients.idle refused_as one_heard
  seeking-told none nothing = refl
  seeking-told (some uid) nothing = refl
  seeking-told uid (one x) = go (ltb 16 (length x))
    where
      c : Client
      c = code (seeking uid)

      said : Bool → Hearing
      said b = cond b TooLong (One (id_from x))

      go : (b : Bool) → Code.met c (is_there uid) (kind_of (said b)) (id_in (said b)) at
          ≡ settles (seeking uid) id (cond b (refuses 14 []) (sought uid (one x)))
      go true = refl
      go false = refl
  seeking-told none unaddressed = refl
  seeking-told (some uid) unaddressed = refl
  seeking-told uid garble = refl

  -- The code's answer for the number that stops a walk is that of the machine's refusal.
  abbrev Same : ℕ → Type 0
  Same n = plainly (stop_of (end_of n)) ≡ refused_as n []

  undone-told : (s : State) (n : Walk.Next) → Undone Same n
      → Code.walked (code (walking s)) (next_of n).goes (next_of n).walk at ≡ settles (walking s) id (walked n)
  unfolding Code.walked settle over onward Clients.idle Steps.stopped
  undone-told s (going t) u = refl
  undone-told s (ended (done ids)) u = absurd u
  undone-told s (ended (stopped n)) u =
      ap (λ (x : Shown). record {
        says = x.says;
        client = record_of seed id idle;
        rest = at;
        progress = x.progress;
        id = x.id;
        found = x.found;
      }) u

  leaving-told : (s : State) (ids : List Paper.Id)
      → Code.walked (code (walking s)) (next_of (ended (done ids))).goes (next_of (ended (done ids))).walk at
      ≡ settles (walking s) none (walked (ended (done ids)))
  unfolding Code.walked settle id_after over Clients.idle Clients.cleared
  leaving-told s ids = refl

  stepped : (s : State) (h : Paper.Heard) → StatesFit.Fits s
      → answers (walking s) h ≡ Code.walked (code (walking s)) (next_of (Walk.step s h)).goes
      (next_of (Walk.step s h)).walk at
  unfolding Code.hears
  stepped s h f = ap (λ (n : Next). Code.walked (code (walking s)) n.goes n.walk at) (step-sim s h f)

  same-deep : Same 12
  unfolding refused_as stop_of
  same-deep = refl

  same-long : Same 14
  unfolding refused_as stop_of
  same-long = refl

  same_full : Same 15
  unfolding refused_as stop_of
  same_full = refl

  same-bare : Same 23
  unfolding refused_as stop_of
  same-bare = refl

  walking-told : (s : State) (h : Paper.Heard) → StatesFit.Fits s
      → answers (walking s) h ≡ settles (walking s) (cleared (select (Walk.request s)) id) (walked (Walk.step s h))
  unfolding Walk.request Walk.step Walk.too_long Walk.tell
  walking-told s h f = go s.phase f
    where
      at-phase : Walk.Phase → State
      at-phase p = record { pre = s.pre; marks = s.marks; ids = s.ids; phase = p }

      asks : (s : State) → StatesFit.Fits s → Staying s.phase
          → answers (walking s) h ≡ settles (walking s) (cleared (select (Walk.request s)) id) (walked (Walk.step s h))
      asks s f a =
          stepped s h f
          ∙ undone-told s (Walk.step s h) (step-undone Same same-deep same-long same_full same-bare s h a)
          ∙ ap (λ (x : Option Paper.Id). settles (walking s) x (walked (Walk.step s h)))
          (sym (keeps (Walk.request s) id (asking-bits s f a)))

      go : (p : Walk.Phase) → StatesFit.Fits (at-phase p)
          → answers (walking (at-phase p)) h
          ≡ settles (walking (at-phase p)) (cleared (select (Walk.request (at-phase p))) id)
          (walked (Walk.step (at-phase p) h))
      go asked f = asks (at-phase asked) f tt
      go (mine x) f = asks (at-phase (mine x)) f tt
      go (other x good) f = asks (at-phase (other x good)) f tt
      go leaving f =
          stepped (at-phase leaving) h f
          ∙ leaving-told (at-phase leaving) (sort s.ids)
          ∙ ap (λ (x : Option Paper.Id). settles (walking (at-phase leaving)) x
          (walked (ended (done (sort s.ids))))) (sym (clears id))

  search-told : (s : Search) → FitsSearch s → (h : Paper.Heard)
      → answers s h ≡ settles s (cleared (select (selected s)) id) (hears s h)
  unfolding selected hears
  search-told (probing bytes bits) f h =
      probing-told bytes bits h
      ∙ ap (λ (x : Option Paper.Id). settles (probing bytes bits) x (hears (probing bytes bits) h))
      (sym (keeps (take bits (bits_of bytes)) id
      (omega (arith, f.0, f.1, length-take bits (bits_of bytes), bits-length bytes))))
  search-told parting f h = parting-told h
      ∙ ap (λ (x : Option Paper.Id). settles parting x (hears parting h)) (sym (clears id))
  search-told (seeking none) f h = seeking-told none h
  search-told (seeking (some uid)) f h =
      seeking-told (some uid) h ∙ ap
      (λ (x : Option Paper.Id). settles (seeking (some uid)) x (hears (seeking (some uid)) h))
      (sym (keeps (bits_of uid) id (omega (arith, bits-length uid))))
  search-told (backing uid) f h =
      backing-told uid h ∙ ap (λ (x : Option Paper.Id). settles (backing uid) x (hears (backing uid) h))
      (sym (clears id))
  search-told (walking s) f h = walking-told s h f

-- The machine's answer to a record in a phase, and that the code's is the same.
module _ (c : Machine.Client) (image bytes : List ℕ) where
  abbrev after : Phase → Machine.Client
  after ph = record { seed = c.seed; id = cleared (OperationMachine.request ph) c.id; turn = waiting ph }

  abbrev reads : Phase → Machine.Told
  reads ph =
      on_some (reading (OperationMachine.request ph) image bytes)
      (fails (turned c (waiting ph)) (place (OperationMachine.request ph) bytes))
      (λ a. settle (after ph) (step ph a).progress (step ph a).then (place (OperationMachine.request ph) bytes))

  phase-told : (ph : Phase) → FitsPhase ph → other_length (lends ph) image ≡ false
      → Code.answered_to (client_of (turned c (waiting ph))) (phase_in ph) image bytes ≡ told_as (reads ph)
  unfolding Code.answered_to step settle id_after over Clients.idle
  phase-told (selecting s) f e = search-told c.seed c.id (length bytes) s f (hear bytes)
  phase-told (demanding j) f e = job-told c.seed c.id j f image bytes e
  phase-told (leaving bootloader baud) f e = refl

pub record-told : (c : Machine.Client) → Fits c → (image bytes : List ℕ)
    → Code.record' (client_of c) image bytes ≡ told_as (Machine.record' c image bytes)
unfolding Code.record' Machine.record' refused_as
record-told c f image bytes = go c.turn f.turn
  where
    go : (t : Turn) → FitsTurn t → Code.record' (client_of (turned c t)) image bytes
        ≡ told_as (Machine.record' (turned c t) image bytes)
    go idle w = refl
    go (ready ph) w = refl
    go (waiting ph) w = rw (other-sim ph image) (lent (other_length (lends ph) image) refl)
      where
        lent : (b : Bool) → other_length (lends ph) image ≡ b
            → cond b (Clients.refuses (client_of (turned c (waiting ph))) OtherImage)
            (Code.answered_to (client_of (turned c (waiting ph))) (phase_in ph) image bytes)
            ≡ told_as (cond b (unchanged (turned c (waiting ph)) 20 []) (reads c image bytes ph))
        lent true e = refl
        lent false e = phase-told c image bytes ph w e

pub failed-told : (c : Machine.Client) → Code.link_failed (client_of c) ≡ told_as (Machine.link_failed c)
unfolding Code.link_failed Machine.link_failed refused_as over Clients.idle
failed-told c = go c.turn
  where
    go : (t : Turn) → Code.link_failed (client_of (turned c t)) ≡ told_as (Machine.link_failed (turned c t))
    go idle = refl
    go (ready ph) = refl
    go (waiting ph) = refl
