-- A client driven over a wire of bytes discovers as the walk machine does, Select by Select.
use Prim.Native.Nat.{ℕ, zero, suc, ◌+◌, ◌%◌, ◌≤◌}
use mathlib.Core.Bool.{false}
use mathlib.Core.List.{List, [], ◌++◌}
use mathlib.Core.Option.{Option, none}
use mathlib.Core.Path.{◌≡◌, refl, ◌∙◌, ap, ap₂}
use native.Mathlib.Nat.{mod-add-mod}
use native.Mathlib.Omega.{arith}
use lib.Dec.{eqb}
use lib.ListN.{length, drop}
use lib.Seq.{take-append_seam}
use borrow.Author.Tests.{le-ltb}
use Rattle.lore.proofs.Choice.{either}
use Rattle.paper.specs.Client.{bytes_of, cleared, granted}
use Rattle.paper.specs.Hearing as Paper
use Rattle.paper.specs.Hearing.{Prefix, hear, select_frame}
use Rattle.paper.specs.Talk.{select}
use Rattle.paper.specs.Walk.{Ended, done, stopped}
use Rattle.paper.proofs.Frames.{frame-length}
use Rattle.theory.specs.WalkMachine as Walk
use Rattle.theory.specs.WalkMachine.{State, asked, mine, other, leaving, Next, going, ended, drive}
use Rattle.theory.specs.OperationMachine as OperationMachine
use Rattle.theory.specs.OperationMachine.{Search, walking, selecting, selected, Then, walked, hears, step}
use Rattle.theory.specs.ClientMachine as Machine
use Rattle.theory.specs.ClientMachine.{Brief, Turn, idle, ready, waiting, settle, handed_out, grant}
use Rattle.theory.proofs.walk.StepEnds.{Undone, Staying, step-undone}
use Rattle.theory.proofs.walk.StatesFit as StatesFit
use Rattle.theory.proofs.walk.StatesFit.{FitsNext, step_fits}
use Rattle.ids.specs.declared.Id.{Id}
use Rattle.walk_table.specs.Rows.{no_table}
use Rattle.client.specs.declared.Client.{Client}
use Rattle.client.specs.declared.Outcome.TheVariants.{Unaddressed}
use Rattle.client.specs.declared.Refusal.{Refusal}
use Rattle.client.specs.declared.Says.TheVariants.{Over, Refused}
use Rattle.client.specs.declared.Told.{Told}
use Rattle.client_request.specs.Request.{Asking, request, next_seed}
use Rattle.client_record.specs.Record.{record'}
use Rattle.refinement.specs.CodeClient.{client_of, Shown, beside, plainly, refused_as, told_as, asked_as}
use Rattle.refinement.specs.ClientServed.{Wire, sent, round, is_onward, served, heard_by, end_id}
use Rattle.refinement.proofs.client.RequestBytes.{payload-length, request-asked}
use Rattle.refinement.proofs.client.RecordAnswers.{keeps, clears, asking-bits, record-told}

-- What holds of each refusal in the code's form, and of the outcome that is number 23, holds of the answer to any
-- number.
refused-leads : (Q : Shown → Type 0) → ((r : Refusal) (x : Id) → Q (beside (Refused r) x))
    → Q (plainly (Over Unaddressed)) → (n : ℕ) (carries : List ℕ) → Q (refused_as n carries)
unfolding refused_as
refused-leads Q r u n carries =
    either Q (eqb n 1) (r _ _) (either Q (eqb n 2) (r _ _)
    (either Q (eqb n 3) (r _ _) (either Q (eqb n 4) (r _ _) (either Q (eqb n 5) (r _ _) (either Q (eqb n 6) (r _ _)
    (either Q (eqb n 7) (r _ _) (either Q (eqb n 8) (r _ _)
    (either Q (eqb n 9) (r _ _) (either Q (eqb n 10) (r _ _) (either Q (eqb n 11) (r _ _) (either Q (eqb n 12) (r _ _)
    (either Q (eqb n 13) (r _ _) (either Q (eqb n 14) (r _ _)
    (either Q (eqb n 15) (r _ _) (either Q (eqb n 16) (r _ _) (either Q (eqb n 17) (r _ _) (either Q (eqb n 18) (r _ _)
    (either Q (eqb n 19) (r _ _) (either Q (eqb n 20) (r _ _) (either Q (eqb n 23) u (r _ _)))))))))))))))))))))

-- After a refusal the operation does not go on.
pub refused-ends : (n : ℕ) (carries : List ℕ) → is_onward (refused_as n carries).says ≡ false
unfolding is_onward
refused-ends = refused-leads (λ s. is_onward s.says ≡ false) (λ r x. refl) refl

-- No refusal comes with a list of ids.
pub refused-table : (n : ℕ) (carries : List ℕ) → (refused_as n carries).found ≡ no_table
refused-table = refused-leads (λ s. s.found ≡ no_table) (λ r x. refl) refl

-- A Select takes at most 31 bytes.
pub select-length : (q : Prefix) (seed : ℕ) (image : List ℕ) → length q ≤ 129
    → length (bytes_of (select q) seed image) ≤ 31
unfolding bytes_of
select-length q seed image h = omega (arith, frame-length (select_frame seed q), payload-length seed q)

-- The attached id while the walk goes on, and after it has ended.
abbrev pub id_at : Option Paper.Id → Next → Option Paper.Id
id_at id (going s) = id
id_at id (ended e) = end_id id e

-- The answer where the walk machine stands, after k Selects from the seed b.
abbrev pub stood : ℕ → Option Paper.Id → ℕ → Next → ℕ → Told
stood b id k next at = told_as (settle (record { seed = (b + k) % 256; id = id_at id next; turn = idle }) none
    (walked next) at)

next-seed : (b k : ℕ) → next_seed ((b + k) % 256) ≡ (b + suc k) % 256
next-seed b k = mod-add-mod (b + k) 256 1 ∙ ap (λ (x : ℕ). x % 256) (shift b k)
  where
    shift : (b k : ℕ) → b + k + 1 ≡ b + suc k
    shift b k = omega arith

-- Whatever is heard, the attached id after the step is the one that `id_at` gives.
id-after : (s : State) → StatesFit.Fits s → (id : Option Paper.Id) (h : Paper.Heard)
    → cleared (select (Walk.request s)) id ≡ id_at id (Walk.step s h)
unfolding Walk.request Walk.step Walk.too_long Walk.tell
id-after s f id h = go s.phase f
  where
    at : Walk.Phase → State
    at p = record { pre = s.pre; marks = s.marks; ids = s.ids; phase = p }

    same : (n : Next) → Undone (λ c. Unit {0}) n → id ≡ id_at id n
    same (going t) u = refl
    same (ended (done ids)) u = absurd u
    same (ended (stopped c)) u = refl

    asks : (t : State) → StatesFit.Fits t → Staying t.phase
        → cleared (select (Walk.request t)) id ≡ id_at id (Walk.step t h)
    asks t f a = keeps (Walk.request t) id (asking-bits t f a)
        ∙ same (Walk.step t h) (step-undone (λ c. Unit {0}) tt tt tt tt t h a)

    go : (p : Walk.Phase) → StatesFit.Fits (at p)
        → cleared (select (Walk.request (at p))) id ≡ id_at id (Walk.step (at p) h)
    go asked f = asks (at asked) f tt
    go (mine x) f = asks (at (mine x)) f tt
    go (other x good) f = asks (at (other x good)) f tt
    go leaving f = clears id

module _ (buffer : List ℕ) (room : 31 ≤ length buffer) (wire : Wire) (b : ℕ) (id : Option Paper.Id)
    (brief : Brief id) where
  -- A Select that is granted, and its bytes.
  module _ (seed : ℕ) (q : Search) (bytes : List ℕ) (small : length bytes ≤ 31) (next : ℕ) where
    abbrev asking : Machine.Client
    asking = record { seed = seed; id = id; turn = ready (selecting q) }

    abbrev out : Machine.Client
    out = record { seed = next; id = id; turn = handed_out (selecting q) }

    grants : grant asking bytes next (selecting q) buffer
        ≡ record { says = granted (length bytes); client = out; buffer = bytes ++ drop (length bytes) buffer }
    unfolding grant
    grants = rw (le-ltb (length buffer) (length bytes) (omega arith))

    granted-client : (asked_as (grant asking bytes next (selecting q) buffer)).answer.client ≡ client_of out
    granted-client = ap (λ (a : Machine.Asked). (asked_as a).answer.client) grants

    granted_bytes : sent (asked_as (grant asking bytes next (selecting q) buffer)) ≡ bytes
    unfolding sent
    granted_bytes = ap (λ (a : Machine.Asked). sent (asked_as a)) grants
        ∙ take-append_seam bytes (drop (length bytes) buffer)

  module _ (k : ℕ) (s : State) (f : StatesFit.Fits s) where
    ready-client : Machine.Client
    ready-client = record { seed = (b + k) % 256; id = id; turn = ready (selecting (walking s)) }

    bytes : List ℕ
    bytes = bytes_of (select (Walk.request s)) (next_seed ((b + k) % 256)) []

    small : length bytes ≤ 31
    unfolding bytes
    small = select-length (Walk.request s) (next_seed ((b + k) % 256)) [] (StatesFit.request-fits s f)

    asks : request (client_of ready-client) [] buffer
        ≡ asked_as (grant ready-client bytes (next_seed ((b + k) % 256)) (selecting (walking s)) buffer)
    unfolding ready-client bytes Machine.request selected
    asks = request-asked ready-client (record { seed = omega arith; id = brief; turn = f }) [] buffer

    heard : Paper.Heard
    heard = hear (wire k bytes)

    heard-is : heard ≡ heard_by wire b k (Walk.request s)
    unfolding heard bytes heard_by
    heard-is = ap (λ (n : ℕ). hear (wire k (bytes_of (select (Walk.request s)) n []))) (next-seed b k)

    -- One round.
    rounds : round buffer wire k (client_of ready-client)
        ≡ stood b id (suc k) (Walk.step s (heard_by wire b k (Walk.request s))) (length (wire k bytes))
    unfolding round ready-client heard Machine.record' selected step hears handed_out settle
    rounds =
        ap (λ (a : Asking). record' a.answer.client [] (wire k (sent a))) asks
        ∙ ap₂ (λ (c : Client) (l : List ℕ). record' c [] (wire k l))
        (granted-client ((b + k) % 256) (walking s) bytes small (next_seed ((b + k) % 256)))
        (granted_bytes ((b + k) % 256) (walking s) bytes small (next_seed ((b + k) % 256)))
        ∙ record-told (record { seed = next_seed ((b + k) % 256); id = id; turn = waiting (selecting (walking s)) })
        (record { seed = omega arith; id = brief; turn = f }) [] (wire k bytes)
        ∙ ap₂ (λ (n : ℕ) (x : Option Paper.Id). told_as
        (settle (record { seed = n; id = x; turn = waiting (selecting (walking s)) }) none (walked (Walk.step s heard))
        (length (wire k bytes))))
        (next-seed b k) (id-after s f id heard)
        ∙ ap (λ (h : Paper.Heard). told_as
        (settle (record {
          seed = (b + suc k) % 256;
          id = id_at id (Walk.step s h);
          turn = waiting (selecting (walking s));
        }) none (walked (Walk.step s h)) (length (wire k bytes)))) heard-is
        ∙ ap told_as (turn-settles ((b + suc k) % 256) (id_at id next) (waiting (selecting (walking s))) (walked next)
        (length (wire k bytes)))
      where
        next : Next
        next = Walk.step s (heard_by wire b k (Walk.request s))

        turn-settles : (n : ℕ) (x : Option Paper.Id) (t : Turn) (next : Then) (at : ℕ)
            → settle (record { seed = n; id = x; turn = t }) none next at
            ≡ settle (record { seed = n; id = x; turn = idle }) none next at
        turn-settles n x t (OperationMachine.to ph) at = refl
        turn-settles n x t (OperationMachine.ends o) at = refl
        turn-settles n x t (OperationMachine.refuses m carries) at = refl

  -- The answer and the count of Selects are those where the walk machine stands.
  pub record Stands (code : Told × ℕ) (machine : Next × ℕ) : Type 0 where
    pub at : ℕ
    pub told : code.0 ≡ stood b id machine.1 machine.0 at
    pub count : code.1 ≡ machine.1

  once : (n k : ℕ) (s : State) (f : StatesFit.Fits s) (at : ℕ)
      → served (suc n) buffer wire k (stood b id k (going s) at)
      ≡ served n buffer wire (suc k)
      (stood b id (suc k) (Walk.step s (heard_by wire b k (Walk.request s))) (length (wire k (bytes k s f))))
  unfolding served is_onward settle ready-client
  once n k s f at = ap (served n buffer wire (suc k)) (rounds k s f)

  pub ended-onward : (k : ℕ) (e : Ended (List Paper.Id)) (at : ℕ) → is_onward (stood b id k (ended e) at).says ≡ false
  unfolding is_onward settle
  ended-onward k (done ids) at = refl
  ended-onward k (stopped c) at = refused-ends c []

  pub serve-walks : (n k : ℕ) (next : Next) → FitsNext next → (at : ℕ)
      → Stands (served n buffer wire k (stood b id k next at)) (drive n (heard_by wire b) k next)
  unfolding served drive
  serve-walks zero k next f at = record { at = at; told = refl; count = refl }
  serve-walks (suc n) k (going s) f at =
      go (serve-walks n (suc k) (Walk.step s (heard_by wire b k (Walk.request s))) (step_fits s _ f)
      (length (wire k (bytes k s f))))
    where
      go : Stands (served n buffer wire (suc k)
          (stood b id (suc k) (Walk.step s (heard_by wire b k (Walk.request s))) (length (wire k (bytes k s f)))))
          (drive n (heard_by wire b) (suc k) (Walk.step s (heard_by wire b k (Walk.request s))))
          → Stands (served (suc n) buffer wire k (stood b id k (going s) at))
          (drive n (heard_by wire b) (suc k) (Walk.step s (heard_by wire b k (Walk.request s))))
      go h = rw (once n k s f at) h
  serve-walks (suc n) k (ended e) f at = rw (ended-onward k e at) (record { at = at; told = refl; count = refl })
