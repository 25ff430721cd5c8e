-- A job fits after each reply to its request: the information, the next address, the next offset, the retries.
use Prim.Native.Nat.{ℕ, ◌+◌, ◌-◌, ◌*◌, ◌/◌, ◌%◌, ◌<◌, ◌≤◌, ◌^◌}
use mathlib.Core.Bool.{false, ◌&&◌}
use mathlib.Core.List.{List}
use mathlib.Core.Option.{Option}
use mathlib.Core.Path.{◌≡◌, refl}
use native.Mathlib.Decide.{dec_lt}
use native.Mathlib.Nat.{div-zero, div-mul-le_self, mul-le-mul_left}
use native.Mathlib.Omega.{arith}
use lib.Dec.{ltb, leb, eqb}
use lib.ListN.{length}
use borrow.Author.Tests.{ltb-true, leb-true, leb-false}
use Rattle.std.specs.Prelude as Std
use Rattle.std.specs.Prelude.{Result, Ok, Err}
use Rattle.std.specs.Option.{unwrap_or}
use Rattle.paper.specs.Frame as PaperFrame
use Rattle.paper.specs.Frame.{check, field}
use Rattle.paper.specs.Answers as PaperAnswers
use Rattle.paper.specs.Answers.{sound, spans_too_far, too_large, reported, key, incompatible, steps, erase_progress, chunk}
use Rattle.paper.specs.Answers.{padding, padded}
use Rattle.paper.proofs.Fields.{byte-below, field_below}
use Rattle.paper.proofs.Words.{Bytes}
use Rattle.theory.proofs.frames.CheckParts.{check-fits}
use Rattle.image.specs.declared.Info.{Info}
use Rattle.image.specs.Images.{paper_info, code_info, shown_info, shown_key, erase_after}
use Rattle.image.proofs.Ways.{none_still, some_next, none_past}
use Rattle.image.specs.Pieces.{left, is_last, chunks_to, chunks}
use Rattle.paper.proofs.Chunks.{chunk-multiple, chunk-most}
use Rattle.client.specs.declared.Job.{Job}
use Rattle.client.specs.declared.Job.TheVariants.{Informing, Erasing, Writing, Verifying, Resetting}
use Rattle.client.specs.declared.Outcome.TheVariants.{Knows}
use Rattle.client.specs.declared.Purpose.{Purpose}
use Rattle.client.specs.declared.Purpose.TheVariants.{Tell, Clear, Load}
use Rattle.client.specs.declared.Refusal.{Refusal}
use Rattle.client.specs.declared.Says.TheVariants as Says
use Rattle.client_job.specs.declared.Next.{Next}
use Rattle.client_job.specs.declared.Then.{Then}
use Rattle.client_job.specs.declared.Then.TheVariants.{On, Over}
use Rattle.client_job.specs.Job.{quietly, refusing, on_informed, on_erase, erases, judged, prepared, informed, writes}
use Rattle.client_job.specs.Job.{cleared, erased, wrote, repeated, verified, accepted, declined}
use Rattle.image.specs.InfoBytes.{no_info, InfoFits}
use Rattle.host_turn.specs.Turns.{size_of}
use Rattle.host_turn.proofs.Laws.{no-info-fits}
use Rattle.host_answer.specs.Numbers.{outcome_note, refusal_note, note_of}
use Rattle.host_theory.proofs.ByteArrays.{chosen}
use Rattle.host_theory.proofs.NumbersFit.{SaysFits, ProgressFits, no-progress, made-fits, ending-fits}
use Rattle.host_theory.proofs.NumbersFit.{refusing-fits, bare-fits}
use Rattle.host_theory.proofs.TurnFits.{PurposeFits, JobFits}
use Rattle.client.specs.Clients.{some_progress}

abbrev pub ThenFits : Result Then Refusal → Type 0
ThenFits (Ok (On job)) = JobFits job
ThenFits (Ok (Over o)) = SaysFits (Says.Over o)
ThenFits (Err r) = SaysFits (Says.Refused r)

pub record NextFits (n : Next) : Type 0 where
  pub progress : ProgressFits n.progress
  pub then : ThenFits n.then

quiet-fits : (t : Result Then Refusal) → ThenFits t → NextFits (quietly t)
quiet-fits t h = record { progress = no-progress; then = h }

-- The information in a payload of bytes.
info-fits : (payload : List ℕ) → Bytes payload → InfoFits (code_info (PaperFrame.info_of payload))
unfolding PaperFrame.info_of
info-fits payload h = record {
  capacity = field_below 4 0 payload h;
  erase = field_below 2 4 payload h;
  boot = field_below 2 6 payload h;
  app = field_below 2 8 payload h;
  mode = byte-below payload 10 h;
  baud = byte-below payload 11 h;
  compat = field_below 4 12 payload h;
  payload = field_below 2 16 payload h;
}

-- The next erase address is below the capacity.
abbrev Below : ℕ → Std.Option ℕ → Type 0
Below c (Std.Some a) = a < c
Below c Std.None = Unit {0}

next-below : (i : PaperFrame.Info) (address : ℕ) → Below i.capacity (erase_after i address)
next-below i a = go (dec_lt 0 i.erase_size) (dec_lt (a + i.erase_size) i.capacity)
  where
    go : Dec (0 < i.erase_size) → Dec (a + i.erase_size < i.capacity) → Below i.capacity (erase_after i a)
    go (yes e) (yes l) = rw (some_next i a (a + i.erase_size) refl (omega arith) l) l
    go (yes e) (no l) = rw (none_past i a (omega arith)) tt
    go (no e) d = rw (none_still i a (omega arith)) tt

after-below : (i : PaperFrame.Info) (a : ℕ) → Below i.capacity (erase_after i a)
after-below i a = go (dec_lt 0 i.erase_size) (dec_lt (a + i.erase_size) i.capacity)
  where
    go : Dec (0 < i.erase_size) → Dec (a + i.erase_size < i.capacity) → Below i.capacity (erase_after i a)
    go (yes e) (yes l) = rw (some_next i a (a + i.erase_size) refl (omega arith) l) l
    go (yes e) (no l) = rw (none_past i a (omega arith)) tt
    go (no e) d = rw (none_still i a (omega arith)) tt

on-erase : (c : ℕ) (e : Std.Option ℕ) → Below c e → (f : ℕ → Next) (g : Next) → ((a : ℕ) → a < c → NextFits (f a))
    → NextFits g → NextFits (on_erase e f g)
on-erase c (Std.Some a) b f g p q = p a b
on-erase c Std.None b f g p q = q

-- The image's key.
key-small : (image : List ℕ) → Bytes image → unwrap_or (shown_key (key image)) 0 < 2 ^ 32
unfolding key
key-small image h =
    chosen (λ (o : Option ℕ). unwrap_or (shown_key o) 0 < 2 ^ 32) (leb 6 (length image) && eqb (length image % 4) 2) _ _
    (λ e. field_below 4 (length image - 6) image h) (λ e. omega arith)

reported-small : (n : ℕ) → reported n < 2 ^ 32
unfolding reported
reported-small n = chosen (λ (x : ℕ). x < 2 ^ 32) (leb n 0xFFFFFFFF) _ _ (λ e. omega (arith, leb-true n 0xFFFFFFFF e))
    (λ e. omega arith)

-- The number of chunks: each has at least four bytes.
over-four : (x c : ℕ) → 4 ≤ c → 4 * (x / c) ≤ x
over-four x c h = omega (arith, div-mul-le_self x c, mul-le-mul_left (x / c) h)

quotient-small : (x m : ℕ) → x < 2 ^ 65 → x / chunk m + 1 < 2 ^ 64
quotient-small x m h = go (dec_lt 0 (chunk m))
  where
    go : Dec (0 < chunk m) → x / chunk m + 1 < 2 ^ 64
    go (yes k) = omega (arith, over-four x (chunk m) (omega (arith, chunk-multiple m)))
    go (no k) = let none : chunk m ≡ 0 = omega arith in rw (none, div-zero x) (omega arith)

padded-small : (n : ℕ) → n < 2 ^ 64 → padded n ≤ 2 ^ 64
unfolding padding
padded-small n h = omega arith

chunks-small : (info : Info) (n : ℕ) → n < 2 ^ 64 → chunks (paper_info info) n < 2 ^ 64
unfolding steps
chunks-small info n h =
    omega (
      arith,
      quotient-small (padded n + (chunk info.max_payload - 1)) info.max_payload
          (omega (arith, padded-small n h, chunk-most info.max_payload)),
    )

module _ (info : Info) (hi : InfoFits info) where
  knows-fits : SaysFits (Says.Over (Knows info))
  unfolding note_of outcome_note
  knows-fits = ending-fits 0 4 0 false info hi

  erases-fits : (why : Purpose) → PurposeFits why → ThenFits (erases why info)
  unfolding erases note_of refusal_note
  erases-fits why h = chosen ThenFits (spans_too_far (paper_info info)) _ _ (λ e. bare-fits _)
      (λ e. (h, (hi, omega arith)))

  judged-fits : (n : ℕ) → n < 2 ^ 64 → (image : List ℕ) → Bytes image → ThenFits (judged n info image)
  unfolding judged size_of note_of refusal_note
  judged-fits n h image k =
      chosen ThenFits (too_large (paper_info info) n) _ _
      (λ e. refusing-fits _ false 0 (reported n) info.capacity (omega arith) (reported-small n) hi.capacity)
      (λ e. chosen ThenFits (incompatible (paper_info info) image) _ _
      (λ f. refusing-fits _ _ 0 info.compat _ (omega arith) hi.compat (key-small image k))
      (λ f. erases-fits (Load n) h))

  prepared-fits : (why : Purpose) → PurposeFits why → (image : List ℕ) → Bytes image
      → ThenFits (prepared why info image)
  unfolding prepared size_of
  prepared-fits Tell h image k = knows-fits
  prepared-fits Clear h image k = erases-fits Clear h
  prepared-fits (Load n) h image k = judged-fits n h image k

  writes-fits : (n : ℕ) → n < 2 ^ 64 → ThenFits (Ok (writes n info))
  unfolding writes
  writes-fits n h = chosen (λ (t : Then). ThenFits (Ok t)) (eqb n 0) _ _ (λ e. (h, hi)) (λ e. (h, (hi, (omega arith, omega arith))))

  cleared-fits : (why : Purpose) → PurposeFits why → ThenFits (Ok (cleared why info))
  unfolding cleared size_of
  cleared-fits Tell h = knows-fits
  cleared-fits Clear h = knows-fits
  cleared-fits (Load n) h = writes-fits n h

  erased-fits : (why : Purpose) → PurposeFits why → (address : ℕ) → address < 2 ^ 32
      → NextFits (erased why info address)
  unfolding erased
  erased-fits why h address k =
      on-erase info.capacity (erase_after (paper_info info) address) (next-below (paper_info info) address) _ _
      (λ next small. record { progress = made; then = (h, (hi, omega (arith, small, hi.capacity))) })
      (record { progress = made; then = cleared-fits why h })
    where
      made : ProgressFits (some_progress (erase_progress (paper_info info) address) info.capacity)
      made = made-fits (erase_progress (paper_info info) address) info.capacity (omega (arith, hi.erase))
          (omega (arith, hi.capacity))

  -- The next offset is below the padded length.
  wrote-fits : (image : List ℕ) → length image < 2 ^ 64 → (offset : ℕ) → offset < 2 ^ 64
      → NextFits (wrote info offset image)
  unfolding wrote is_last
  wrote-fits image h offset k = record {
    progress = made-fits (chunks_to (paper_info info) offset) (chunks (paper_info info) (length image))
        (quotient-small offset info.max_payload (omega arith)) (chunks-small info (length image) h);
    then =
        chosen ThenFits (is_last (paper_info info) (length image) offset) _ _ (λ e. (h, hi))
        (λ e. (
          h,
          (
            hi,
            (
              omega (
                arith,
                padded-small (length image) h,
                leb-false (left (length image) offset) (chunk info.max_payload) e,
              ),
              omega arith,
            ),
          ),
        ));
  }

  repeated-fits : (n offset retries : ℕ) → n < 2 ^ 64 → offset < 2 ^ 64 → ThenFits (repeated n info offset retries)
  unfolding repeated note_of refusal_note
  repeated-fits n offset retries hn ho =
      chosen ThenFits (ltb retries 16) _ _ (λ e. (hn, (hi, (ho, omega (arith, ltb-true retries 16 e)))))
      (λ e. bare-fits _)

  verified-fits : (payload image : List ℕ) → Bytes payload → Bytes image → ThenFits (verified info payload image)
  unfolding verified note_of refusal_note
  verified-fits payload image h k =
      chosen ThenFits (ltb (length payload) 2) _ _ (λ e. bare-fits _)
      (λ e. chosen ThenFits (eqb (check image) (field 0 2 payload)) _ _ (λ f. knows-fits)
      (λ f. refusing-fits _ false 0 (check image) (field 0 2 payload) (omega arith) (omega (arith, check-fits image k))
      (omega (arith, field_below 2 0 payload h))))

informed-fits : (why : Purpose) → PurposeFits why → (payload image : List ℕ) → Bytes payload → Bytes image
    → ThenFits (informed why payload image)
unfolding informed PaperAnswers.informed note_of refusal_note
informed-fits why h payload image k b =
    chosen (λ (o : Option PaperFrame.Info). ThenFits
    (on_informed (shown_info o) (λ info. prepared why info image) (Err Refusal.BadInfo)))
    (leb 18 (length payload) && sound (PaperFrame.info_of payload)) _ _
    (λ e. prepared-fits (code_info (PaperFrame.info_of payload)) (info-fits payload k) why h image b) (λ e. bare-fits _)

module _ (payload image : List ℕ) (k : Bytes payload) (b : Bytes image) (small : length image < 2 ^ 64) where
  pub accepted-fits : (j : Job) → JobFits j → NextFits (accepted j payload image)
  unfolding accepted note_of outcome_note
  accepted-fits (Informing why) h = quiet-fits _ (informed-fits why h payload image k b)
  accepted-fits (Erasing why info address) h = erased-fits info h.1.0 why h.0 address h.1.1
  accepted-fits (Writing n info offset retries) h = wrote-fits info h.1.0 image small offset h.1.1.0
  accepted-fits (Verifying n info) h = quiet-fits _ (verified-fits info h.1 payload image k b)
  accepted-fits (Resetting reset) h = quiet-fits _ (ending-fits 0 0 0 false no_info no-info-fits)

module _ (status : ℕ) (k : status < 256) where
  device-fits : NextFits (refusing (Refusal.Device status))
  unfolding note_of refusal_note
  device-fits = quiet-fits _ (refusing-fits _ false 0 status 0 (omega arith) (omega arith) (omega arith))

  pub declined-fits : (j : Job) → JobFits j → NextFits (declined j status)
  unfolding declined
  declined-fits (Informing why) h = device-fits
  declined-fits (Erasing why info address) h = device-fits
  declined-fits (Writing n info offset retries) h =
      chosen NextFits (eqb status 3) _ _
      (λ e. quiet-fits _ (repeated-fits info h.1.0 n offset retries h.0 h.1.1.0)) (λ e. device-fits)
  declined-fits (Verifying n info) h = device-fits
  declined-fits (Resetting reset) h = device-fits
