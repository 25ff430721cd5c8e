-- The machine's client is document 01's: each call has the same answer and leaves the same conversation.
use Prim.Native.Nat.{ℕ, ◌*◌}
use mathlib.Core.Bool.{Bool, true, false, ◌&&◌, cond}
use mathlib.Core.List.{List, [], ◌∷◌, ◌++◌}
use mathlib.Core.Option.{Option, none, some}
use mathlib.Core.Path.{◌≡◌, refl, sym, ◌∙◌, ap}
use lib.Dec.{leb, ltb}
use lib.ListN.{length, drop, take}
use Rattle.paper.specs.Client as Paper
use Rattle.paper.specs.Client.{Left, proceed, within_longest, other_length, bytes_of, seed_after, cleared, reading, place}
use Rattle.paper.specs.Client.{handing, id_after}
use Rattle.paper.specs.Hearing.{Id, Heard, nothing, one, unaddressed, garble, bits_of, on_some}
use Rattle.paper.specs.Attach.{select_only, deselect, attach, discover}
use Rattle.paper.specs.Flash.{inform_only, erase, flash, reset}
use Rattle.paper.specs.Talk.{AnswerTo, Talk, Outcome}
use Rattle.paper.specs.Walk.{long, done, stopped}
use Rattle.lore.proofs.Choice.{either}
use Rattle.theory.specs.WalkMachine as Machine
use Rattle.theory.specs.WalkMachine.{going, ended}
use Rattle.theory.specs.OperationMachine as OperationMachine
use Rattle.theory.specs.OperationMachine.{Search, probing, parting, seeking, backing, walking, tell, clear, load}
use Rattle.theory.specs.OperationMachine.{informing, resetting, Phase, selecting, demanding, leaving, Then, to}
use Rattle.theory.specs.OperationMachine.{ends, refuses, Next, sought, walked, hears, step, starting}
use Rattle.theory.specs.ClientMachine.{Turn, idle, ready, waiting, Client, fresh, turned, lends, Told, settle}
use Rattle.theory.specs.ClientMachine.{unchanged, fails, start, start_select, start_deselect, start_attach}
use Rattle.theory.specs.ClientMachine.{start_discover, start_info, start_erase, start_flash, resets, start_reset}
use Rattle.theory.specs.ClientMachine.{start_set_baud, Asked, withholds, handed_out, grant, request, record'}
use Rattle.theory.specs.ClientMachine.{link_failed}
use Rattle.theory.proofs.talk.MachineIsTalk.{Sound, resume, resume_job, resume_search, whole, thereafter}
use Rattle.theory.proofs.talk.MachineIsTalk.{reporting, resumed, resume-step, resume-discover}
use Rattle.theory.proofs.talk.JobSteps.{any-end, told-leads}

-- P holds of the phase that follows, if one does.
abbrev pub Onward : (Phase → Type 0) → Then → Type 0
Onward P (to ph) = P ph
Onward P (ends o) = Unit {0}
Onward P (refuses n carries) = Unit {0}

onward-weaken : (P Q : Phase → Type 0) → ((ph : Phase) → P ph → Q ph) → (t : Then) → Onward P t → Onward Q t
onward-weaken P Q f (to ph) h = f ph h
onward-weaken P Q f (ends o) h = tt
onward-weaken P Q f (refuses n carries) h = tt

abbrev After : Option ℕ → Phase → Type 0
After lent ph = Sound ph × (lends ph ≡ lent)

sought-after : (uid : Option Id) (h : Heard) → Onward (After none) (sought uid h)
unfolding sought
sought-after none nothing = tt
sought-after (some given) nothing = tt
sought-after uid (one id) = tt
sought-after none unaddressed = tt
sought-after (some given) unaddressed = tt
sought-after uid garble = (tt, refl)

walked-after : (n : Machine.Next) → Onward (After none) (walked n)
walked-after (going s) = (tt, refl)
walked-after (ended (done ids)) = tt
walked-after (ended (stopped n)) = tt

search-after : (s : Search) (h : Heard) → Onward (After none) (hears s h)
unfolding hears
search-after (probing bytes bits) h = either (Onward (After none)) (long h) tt tt
search-after parting h = tt
search-after (seeking uid) h = either (Onward (After none)) (long h) tt (sought-after uid h)
search-after (backing none) h = tt
search-after (backing (some given)) h = tt
search-after (walking s) h = walked-after (Machine.step s h)

step_after : (ph : Phase) → Sound ph → (a : AnswerTo (OperationMachine.request ph))
    → Onward (After (lends ph)) (step ph a).then
unfolding step
step_after (selecting s) k h = search-after s h
step_after (demanding j) k a =
    told-leads (Onward (After (lends (demanding j)))) (any-end _ tt (λ info. tt) (λ n carries. tt)) j
    (λ i w. (w.0 k, w.1)) a.reply a.image
step_after (leaving bootloader baud) k a = tt

-- The device information of the phase that follows satisfies the Info rule, and the image lent has the same length.
pub step-sound : (ph : Phase) → Sound ph → (a : AnswerTo (OperationMachine.request ph)) → Onward Sound (step ph a).then
step-sound ph k a = onward-weaken (After (lends ph)) Sound (λ q w. w.0) (step ph a).then (step_after ph k a)

pub step-lends : (ph : Phase) → Sound ph → (a : AnswerTo (OperationMachine.request ph))
    → Onward (λ q. lends q ≡ lends ph) (step ph a).then
step-lends ph k a = onward-weaken (After (lends ph)) (λ q. lends q ≡ lends ph) (λ q w. w.1) (step ph a).then
    (step_after ph k a)

-- The rest of the conversation in a turn, and the length of the image lent.
unfoldable pub left_of : Turn → Left
left_of idle = Paper.idle
left_of (ready ph) = Paper.ready (OperationMachine.request ph) (λ a. resumed (step ph a))
left_of (waiting ph) = Paper.waiting (OperationMachine.request ph) (λ a. resumed (step ph a))

abbrev pub lent_in : Turn → Option ℕ
lent_in idle = none
lent_in (ready ph) = lends ph
lent_in (waiting ph) = lends ph

-- A client of the machine as document 01's client.
unfoldable pub paper_of : Client → Paper.Client
paper_of c = record { seed = c.seed; id = c.id; image = lent_in c.turn; left = left_of c.turn }

abbrev pub told_of : Told → Paper.Told
told_of t = record { says = t.says; client = paper_of t.client; rest = t.rest }

abbrev pub asked_of : Asked → Paper.Asked
asked_of a = record { says = a.says; client = paper_of a.client; buffer = a.buffer }

abbrev pub SoundTurn : Turn → Type 0
SoundTurn idle = Unit {0}
SoundTurn (ready ph) = Sound ph
SoundTurn (waiting ph) = Sound ph

pub fresh-sim : paper_of fresh ≡ Paper.fresh
unfolding paper_of left_of fresh Paper.fresh
fresh-sim = refl

settle-sim : (c : Client) (lent : Option ℕ) (l : Left) (progress : Option (ℕ × ℕ)) (t : Then) (at : ℕ) → Onward Sound t
    → Onward (λ q. lends q ≡ lent) t
    → proceed (record { seed = c.seed; id = c.id; image = lent; left = l }) progress (thereafter t) at
    ≡ told_of (settle c progress t at)
unfolding settle proceed thereafter paper_of left_of
settle-sim c lent l progress (to ph) at s e =
    ap (λ m. proceed (record { seed = c.seed; id = c.id; image = lent; left = l }) progress m at) (resume-step ph s)
    ∙ (λ i. record {
      says = Paper.onward progress;
      client = record {
        seed = c.seed;
        id = c.id;
        image = sym e i;
        left = Paper.ready (OperationMachine.request ph) (λ a. resumed (step ph a));
      };
      rest = at;
    })
settle-sim c lent l progress (ends o) at s e = refl
settle-sim c lent l progress (refuses n carries) at s e = refl

next-sim : (c : Client) (lent : Option ℕ) (l : Left) (n : Next) (at : ℕ) → Onward Sound n.then
    → Onward (λ q. lends q ≡ lent) n.then
    → proceed (record { seed = c.seed; id = c.id; image = lent; left = l }) none (resumed n) at
    ≡ told_of (settle c n.progress n.then at)
unfolding resumed reporting proceed
next-sim c lent l n at s e = go n.progress
  where
    go : (p : Option (ℕ × ℕ)) → proceed (record { seed = c.seed; id = c.id; image = lent; left = l }) none
        (reporting p (thereafter n.then)) at ≡ told_of (settle c p n.then at)
    go none = settle-sim c lent l none n.then at s e
    go (some p) = settle-sim c lent l (some p) n.then at s e

-- A start whose conversation is that of its first phase.
start-sim : (c : Client) (good : Bool) (talk : Talk Outcome) (ph : Phase) → Sound ph → talk ≡ resume ph
    → Paper.start_with (lends ph) (paper_of c) good talk ≡ told_of (start c good ph)
unfolding start Paper.start_with paper_of left_of thereafter
start-sim c good talk ph s e = go c.turn good
  where
    go : (t : Turn) (b : Bool) → Paper.start_with (lends ph) (paper_of (turned c t)) b talk
        ≡ told_of (start (turned c t) b ph)
    go idle true =
        ap (λ m. proceed (record { seed = c.seed; id = c.id; image = lends ph; left = Paper.idle }) none m 0) e
        ∙ settle-sim (turned c idle) (lends ph) Paper.idle none (to ph) 0 s refl
    go idle false = refl
    go (ready p) b = refl
    go (waiting p) b = refl

pub start_select-sim : (c : Client) (bytes : Id) (bits : ℕ)
    → Paper.start_select (paper_of c) bytes bits ≡ told_of (start_select c bytes bits)
unfolding Paper.start_select start_select resume resume_search
start_select-sim c bytes bits =
    start-sim c (within_longest bytes && (leb bits 128 && leb bits (8 * length bytes)))
    (select_only (take bits (bits_of bytes))) (selecting (probing bytes bits)) tt refl

pub start_deselect-sim : (c : Client) → Paper.start_deselect (paper_of c) ≡ told_of (start_deselect c)
unfolding Paper.start_deselect start_deselect resume resume_search
start_deselect-sim c = start-sim c true deselect (selecting parting) tt refl

pub start_attach-sim : (c : Client) (uid : Option Id) → Paper.start_attach (paper_of c) uid ≡ told_of (start_attach c uid)
unfolding Paper.start_attach start_attach resume resume_search
start_attach-sim c uid = start-sim c (on_some uid true within_longest) (attach uid) (selecting (seeking uid)) tt refl

pub start_discover-sim : (c : Client) (given : Id)
    → Paper.start_discover (paper_of c) given ≡ told_of (start_discover c given)
unfolding Paper.start_discover start_discover
start_discover-sim c given = start-sim c (within_longest given) (discover given)
    (selecting (walking (starting (bits_of given)))) tt (resume-discover given)

pub start_info-sim : (c : Client) → Paper.start_info (paper_of c) ≡ told_of (start_info c)
unfolding Paper.start_info start_info resume resume_job whole
start_info-sim c = start-sim c true inform_only (demanding (informing tell)) tt refl

pub start_erase-sim : (c : Client) → Paper.start_erase (paper_of c) ≡ told_of (start_erase c)
unfolding Paper.start_erase start_erase resume resume_job whole
start_erase-sim c = start-sim c true erase (demanding (informing clear)) tt refl

pub start_flash-sim : (c : Client) (image : List ℕ) → Paper.start_flash (paper_of c) image ≡ told_of (start_flash c image)
unfolding Paper.start_flash start_flash resume resume_job whole
start_flash-sim c image = start-sim c true (flash (length image)) (demanding (informing (load (length image)))) tt refl

resets-sim : (c : Client) (bootloader : Bool) (baud : Option ℕ) (in_boot : Bool)
    → Paper.start (paper_of c) true (reset bootloader baud in_boot)
    ≡ told_of (start c true (resets bootloader baud in_boot))
unfolding resume resume_job
resets-sim c bootloader baud true =
    start-sim c true (reset bootloader baud true) (demanding (resetting bootloader baud)) tt refl
resets-sim c bootloader baud false = start-sim c true (reset bootloader baud false) (leaving bootloader baud) tt refl

pub start_reset-sim : (c : Client) (bootloader in_boot : Bool)
    → Paper.start_reset (paper_of c) bootloader in_boot ≡ told_of (start_reset c bootloader in_boot)
unfolding Paper.start_reset start_reset
start_reset-sim c bootloader in_boot = resets-sim c bootloader none in_boot

pub start_set_baud-sim : (c : Client) (baud : ℕ) (bootloader in_boot : Bool)
    → Paper.start_set_baud (paper_of c) baud bootloader in_boot ≡ told_of (start_set_baud c baud bootloader in_boot)
unfolding Paper.start_set_baud start_set_baud
start_set_baud-sim c baud bootloader in_boot = resets-sim c bootloader (some baud) in_boot

handed-sim : (c : Client) (seed : ℕ) (ph : Phase)
    → Paper.handed_out (paper_of (turned c (ready ph))) seed (OperationMachine.request ph) (λ a. resumed (step ph a))
    ≡ paper_of (record { seed = seed; id = c.id; turn = handed_out ph })
unfolding Paper.handed_out handed_out paper_of left_of resumed reporting thereafter step proceed id_after
handed-sim c seed (selecting s) = refl
handed-sim c seed (demanding j) = refl
handed-sim c seed (leaving bootloader baud) = refl

grant-sim : (c : Client) (ph : Phase) (bytes : List ℕ) (seed : ℕ) (buffer : List ℕ)
    → Paper.grant (paper_of (turned c (ready ph))) bytes seed (OperationMachine.request ph)
    (λ a. resumed (step ph a)) buffer
    ≡ asked_of (grant (turned c (ready ph)) bytes seed ph buffer)
unfolding Paper.grant grant
grant-sim c ph bytes seed buffer = go (ltb (length buffer) (length bytes))
  where
    out : Client
    out = record { seed = seed; id = c.id; turn = handed_out ph }

    go : (b : Bool)
        → ◌≡◌ {A = Paper.Asked} (cond b (Paper.withholds (paper_of (turned c (ready ph))) 16 (length bytes ∷ []) buffer)
        (record {
          says = handing (OperationMachine.request ph) (length bytes);
          client = Paper.handed_out
              (paper_of (turned c (ready ph))) seed (OperationMachine.request ph) (λ a. resumed (step ph a));
          buffer =
              bytes ++ drop (length bytes) buffer;
        }))
        (asked_of (cond b (withholds (turned c (ready ph)) 16 (length bytes ∷ []) buffer)
        (record {
          says = handing (OperationMachine.request ph) (length bytes);
          client = out;
          buffer = bytes ++ drop (length bytes) buffer;
        })))
    go true = refl
    go false = λ i. record {
      says = handing (OperationMachine.request ph) (length bytes);
      client = handed-sim c seed ph i;
      buffer = bytes ++ drop (length bytes) buffer;
    }

pub request-sim : (c : Client) (image buffer : List ℕ)
    → Paper.request (paper_of c) image buffer ≡ asked_of (request c image buffer)
unfolding Paper.request request paper_of left_of
request-sim c image buffer = go c.turn
  where
    go : (t : Turn) → Paper.request (paper_of (turned c t)) image buffer ≡ asked_of (request (turned c t) image buffer)
    go idle = refl
    go (ready ph) = lent (other_length (lends ph) image)
      where
        seed : ℕ
        seed = seed_after (OperationMachine.request ph) c.seed

        bytes : List ℕ
        bytes = bytes_of (OperationMachine.request ph) seed image

        lent : (b : Bool)
            → cond b (Paper.withholds (paper_of (turned c (ready ph))) 20 [] buffer)
            (Paper.grant (paper_of (turned c (ready ph))) bytes seed (OperationMachine.request ph)
            (λ a. resumed (step ph a)) buffer)
            ≡ asked_of (cond b (withholds (turned c (ready ph)) 20 [] buffer)
            (grant (turned c (ready ph)) bytes seed ph buffer))
        lent true = refl
        lent false = grant-sim c ph bytes seed buffer
    go (waiting ph) = refl

pub record-sim : (c : Client) → SoundTurn c.turn → (image bytes : List ℕ)
    → Paper.record' (paper_of c) image bytes ≡ told_of (record' c image bytes)
unfolding Paper.record' record' paper_of left_of
record-sim c s image bytes = go c.turn s
  where
    go : (t : Turn) → SoundTurn t → Paper.record' (paper_of (turned c t)) image bytes
        ≡ told_of (record' (turned c t) image bytes)
    go idle s = refl
    go (ready ph) s = refl
    go (waiting ph) s = lent (other_length (lends ph) image)
      where
        at : ℕ
        at = place (OperationMachine.request ph) bytes

        before : Client
        before = turned c (waiting ph)

        after : Client
        after = record { seed = c.seed; id = cleared (OperationMachine.request ph) c.id; turn = waiting ph }

        answers : (o : Option (AnswerTo (OperationMachine.request ph)))
            → on_some o (Paper.fails (paper_of before) at) (λ a. proceed (paper_of after) none (resumed (step ph a)) at)
            ≡ told_of (on_some o (fails before at) (λ a. settle after (step ph a).progress (step ph a).then at))
        answers none = refl
        answers (some a) = next-sim after (lends ph) (left_of (waiting ph)) (step ph a) at (step-sound ph s a)
            (step-lends ph s a)

        lent : (b : Bool)
            → cond b (Paper.refuses (paper_of before) 20 [])
            (on_some (reading (OperationMachine.request ph) image bytes) (Paper.fails (paper_of before) at)
            (λ a. proceed (paper_of after) none (resumed (step ph a)) at))
            ≡ told_of (cond b (unchanged before 20 [])
            (on_some (reading (OperationMachine.request ph) image bytes) (fails before at)
            (λ a. settle after (step ph a).progress (step ph a).then at)))
        lent true = refl
        lent false = answers (reading (OperationMachine.request ph) image bytes)

pub link_failed-sim : (c : Client) → Paper.link_failed (paper_of c) ≡ told_of (link_failed c)
unfolding Paper.link_failed link_failed paper_of left_of
link_failed-sim c = go c.turn
  where
    go : (t : Turn) → Paper.link_failed (paper_of (turned c t)) ≡ told_of (link_failed (turned c t))
    go idle = refl
    go (ready ph) = refl
    go (waiting ph) = refl
