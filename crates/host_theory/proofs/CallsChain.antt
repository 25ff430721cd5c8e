-- The exported calls chain: over any calls, each leaves and answers what the client's own call does, on the client
-- reached so far.
use Prim.Native.Nat.{ℕ, ◌≤◌}
use mathlib.Core.List.{List, [], ◌∷◌, ◌++◌, map}
use mathlib.Core.Option.{none, some}
use mathlib.Core.Path.{◌≡◌, refl, sym, ◌∙◌, ap, ap₂, subst}
use native.Mathlib.Omega.{arith}
use lib.ListN.{length, drop, replicate, length-append}
use lib.Seq.{drop_at}
use Rattle.paper.specs.Count.{All}
use Rattle.lore.proofs.Choice.{by-test}
use Rattle.paper.proofs.Words.{Bytes}
use Rattle.client.specs.declared.Client.{Client}
use Rattle.client.specs.declared.Started.{Started}
use Rattle.client.specs.Clients.{fresh, attached}
use Rattle.client.specs.Numbers.{changes_no_state}
use Rattle.host_state.specs.State as State
use Rattle.host_state.specs.State.{saved, loaded, Fits}
use Rattle.host_state.proofs.Laws.{saved-length, loaded-saved, loaded-fits, fresh-is-zero, fresh-fits, no-id-fits}
use Rattle.host_state.proofs.Laws.{no-table-fits}
use Rattle.host_answer.specs.AnswerBytes as AnswerBytes
use Rattle.host_answer.specs.Numbers.{note_of}
use Rattle.host_buffers.specs.Hosts.{Requested, told_by, leaves, handed, shows_attached, views}
use Rattle.host_buffers.proofs.Ways.{lent-enough}
use Rattle.refinement.specs.Calls.{Call, start_select, start_deselect, start_attach, start_discover, start_info, start_erase}
use Rattle.refinement.specs.Calls.{start_flash, start_reset, start_set_baud, request, record', link_failed, Good, code_call}
use Rattle.refinement.specs.Calls.{code_answer, code_answers, reached}
use Rattle.host_theory.specs.ExportedCalls.{Lent, Lending, Fair, exported, exports, state_after, made, held}
use Rattle.host_theory.specs.ExportedCalls.{held_by, read_as, read_from, Coded, behind}
use Rattle.host_theory.proofs.NumbersFit.{no-progress}
use Rattle.host_theory.proofs.RefusedBytes.{kept, unheld, exported-lent}
use Rattle.host_theory.proofs.BuffersRead.{held-read, held-coded, held-behind}
use Rattle.host_theory.proofs.ClientFits.{StartedFits, ToldFits, select-fits, deselect-fits, attach-fits}
use Rattle.host_theory.proofs.ClientFits.{attach-to-fits, discover-fits, info-fits, erase-fits, flash-starts-fits}
use Rattle.host_theory.proofs.ClientFits.{reset-fits, set-baud-fits, request-fits, record-fits, failed-fits}

-- The answer of each call fits.
started-fits : (s : Started) → StartedFits s → ToldFits (told_by s)
unfolding told_by
started-fits s h = record {
  client = h.client;
  says = h.says;
  rest = omega arith;
  progress = no-progress;
  id = no-id-fits;
  found = no-table-fits;
}

made-fits : (c : Client) → Fits c → (call : Call) → Good call → Lent call → ToldFits (made c call).told
unfolding made
made-fits c h (start_select bytes bits) g l = started-fits _ (select-fits c h bytes bits g)
made-fits c h start_deselect g l = started-fits _ (deselect-fits c h)
made-fits c h (start_attach none) g l = started-fits _ (attach-fits c h)
made-fits c h (start_attach (some bytes)) g l = started-fits _ (attach-to-fits c h bytes g)
made-fits c h (start_discover given) g l = started-fits _ (discover-fits c h given g)
made-fits c h start_info g l = started-fits _ (info-fits c h)
made-fits c h start_erase g l = started-fits _ (erase-fits c h)
made-fits c h (start_flash image) g l = started-fits _ (flash-starts-fits c h image l)
made-fits c h (start_reset bootloader in_boot) g l = started-fits _ (reset-fits c h bootloader in_boot)
made-fits c h (start_set_baud baud bootloader in_boot) g l = started-fits _ (set-baud-fits c h baud bootloader in_boot l)
made-fits c h (request image buffer) g l = started-fits _ (request-fits c h image buffer)
made-fits c h (record' image bytes) g l = record-fits c h image bytes l.0.0 l.1 l.0.1 g
made-fits c h link_failed g l = failed-fits c h

-- `made` and `code_call` agree: on the client after a call, and on its answer.
made-call : (c : Client) (call : Call)
    → ((made c call).told.client ≡ (code_call c call).1) × (read_as (made c call) ≡ code_answer (code_call c call))
unfolding made code_call told_by read_as
made-call c (start_select bytes bits) = (refl, refl)
made-call c start_deselect = (refl, refl)
made-call c (start_attach none) = (refl, refl)
made-call c (start_attach (some bytes)) = (refl, refl)
made-call c (start_discover given) = (refl, refl)
made-call c start_info = (refl, refl)
made-call c start_erase = (refl, refl)
made-call c (start_flash image) = (refl, refl)
made-call c (start_reset bootloader in_boot) = (refl, refl)
made-call c (start_set_baud baud bootloader in_boot) = (refl, refl)
made-call c (request image buffer) = (refl, refl)
made-call c (record' image bytes) = (refl, refl)
made-call c link_failed = (refl, refl)

-- One exported call, on buffers that are long enough.
pub exported-held : (s a : List ℕ) → State.size ≤ length s → AnswerBytes.size ≤ length a → (call : Call)
    → exported s a call ≡ held s a (made (loaded s) call)
exported-held s a whole room call =
    exported-lent s a call ∙ sym (lent-enough (length s) (length a) (unheld s a call)
    (held s a (made (loaded s) call)) whole room)

-- A state that holds a client that fits, with these bytes after it.
pub record Holds (s : List ℕ) (c : Client) (more : List ℕ) : Type 0 where
  pub whole : State.size ≤ length s
  pub client : loaded s ≡ c
  pub fits : Fits c
  pub behind : drop State.size s ≡ more

saved-holds : (c : Client) → Fits c → (more : List ℕ) → Holds (saved c ++ more) c more
saved-holds c h more = record {
  whole = omega (arith, length-append (saved c) more, saved-length c h);
  client = loaded-saved c h more;
  fits = h;
  behind = drop_at (saved c) more State.size (saved-length c h);
}

-- One exported call on such a state, and the state after it.
module _ (s : List ℕ) (c : Client) (more : List ℕ) (h : Holds s c more) (x : Lending) (k : Fair x) where
  pub told-fits : ToldFits (made c x.call).told
  told-fits = made-fits c h.fits x.call k.bytes k.lengths

  pub leaves-held : exported s x.answer x.call ≡ held s x.answer (made c x.call)
  leaves-held = exported-held s x.answer h.whole k.room x.call
      ∙ ap (λ (d : Client). held s x.answer (made d x.call)) h.client

  pub holds_after : Holds (held s x.answer (made c x.call)).state (made c x.call).told.client more
  unfolding held handed leaves
  holds_after =
      by-test (λ (b : List ℕ). Holds b (made c x.call).told.client more)
      (changes_no_state (note_of (made c x.call).told.says).number)
      (λ e. subst (λ (d : Client). Holds s d more) (sym (kept c x.call e).0) h)
      (λ e. subst (λ (b : List ℕ). Holds (saved (made c x.call).told.client ++ b)
      (made c x.call).told.client more) (sym h.behind)
      (saved-holds (made c x.call).told.client told-fits.client more))

-- Any calls.
exports-held : (xs : List Lending) (s : List ℕ) (c : Client) (more : List ℕ) → Holds s c more → All Fair xs
    → exports s xs ≡ held_by s c xs
unfolding exports held_by
exports-held [] s c more h ks = refl
exports-held (x ∷ xs) s c more h ks =
    let n : Requested = held s x.answer (made c x.call) in
    ap (λ (e : Requested). e ∷ exports e.state xs) (leaves-held s c more h x ks.0)
    ∙ ap (λ (es : List Requested). n ∷ es)
    (exports-held xs n.state (made c x.call).told.client more (holds_after s c more h x ks.0) ks.1)

state-held : (xs : List Lending) (s : List ℕ) (c : Client) (more : List ℕ) → Holds s c more → All Fair xs
    → Holds (state_after s xs) (reached c (map (λ x. x.call) xs)) more
unfolding state_after reached
state-held [] s c more h ks = h
state-held (x ∷ xs) s c more h ks =
    let n : Requested = held s x.answer (made c x.call) in
    subst (λ (e : Requested). Holds (state_after e.state xs)
    (reached (code_call c x.call).1 (map (λ y. y.call) xs)) more) (sym (leaves-held s c more h x ks.0))
    (subst (λ (d : Client). Holds (state_after n.state xs) (reached d (map (λ y. y.call) xs)) more)
    (made-call c x.call).0
    (state-held xs n.state (made c x.call).told.client more (holds_after s c more h x ks.0) ks.1))

-- After each call: what a host reads is the client's own answer; its code; and the bytes after state and answer.
module _ (more : List ℕ) where
  reads_held : (xs : List Lending) (s : List ℕ) (c : Client) → Holds s c more → All Fair xs
      → map read_from (held_by s c xs) ≡ code_answers c (map (λ x. x.call) xs)
  unfolding held_by code_answers
  reads_held [] s c h ks = refl
  reads_held (x ∷ xs) s c h ks =
      let k = holds_after s c more h x ks.0 in
      ap₂ ◌∷◌ (held-read (made c x.call) (told-fits s c more h x ks.0) s x.answer k.client
      ∙ (made-call c x.call).1)
      (reads_held xs (held s x.answer (made c x.call)).state (made c x.call).told.client k ks.1
      ∙ ap (λ (d : Client). code_answers d (map (λ y. y.call) xs)) (made-call c x.call).0)

  codes-held : (xs : List Lending) (s : List ℕ) (c : Client) → Holds s c more → All Fair xs → All Coded (held_by s c xs)
  unfolding held_by
  codes-held [] s c h ks = tt
  codes-held (x ∷ xs) s c h ks = (
    held-coded (made c x.call) (told-fits s c more h x ks.0) s x.answer,
    codes-held xs (held s x.answer (made c x.call)).state (made c x.call).told.client
        (holds_after s c more h x ks.0) ks.1,
  )

  behind-held : (xs : List Lending) (s : List ℕ) (c : Client) → Holds s c more → All Fair xs
      → map behind (held_by s c xs) ≡ map (λ x. (more, drop AnswerBytes.size x.answer)) xs
  unfolding held_by
  behind-held [] s c h ks = refl
  behind-held (x ∷ xs) s c h ks =
      let k = holds_after s c more h x ks.0 in
      ap₂ ◌∷◌ (held-behind (made c x.call) (told-fits s c more h x ks.0) s x.answer more k.behind)
      (behind-held xs (held s x.answer (made c x.call)).state (made c x.call).told.client k ks.1)

-- The attached id in such a state.
pub views-held : (s : List ℕ) (c : Client) (more a : List ℕ) → Holds s c more → AnswerBytes.size ≤ length a
    → views s a ≡ shows_attached (attached c) a
unfolding views
views-held s c more a h room =
    sym (lent-enough (length s) (length a) (λ (code : ℕ). record { code = code; bytes = a })
    (shows_attached (attached (loaded s)) a) h.whole room)
    ∙ ap (λ (d : Client). shows_attached (attached d) a) h.client

-- Any bytes hold a client; zero bytes hold a fresh one.
pub any-holds : (s : List ℕ) → Bytes s → State.size ≤ length s → Holds s (loaded s) (drop State.size s)
any-holds s b whole = record { whole = whole; client = refl; fits = loaded-fits s b whole; behind = refl }

pub zero-holds : (more : List ℕ) → Holds (replicate State.size 0 ++ more) fresh more
zero-holds more = subst (λ (s : List ℕ). Holds (s ++ more) fresh more) fresh-is-zero (saved-holds fresh fresh-fits more)

-- Any calls on a state that holds a client.
module _ (s : List ℕ) (c : Client) (more : List ℕ) (h : Holds s c more) (xs : List Lending) (ks : All Fair xs) where
  -- Each call leaves what the client's own call does, on the client reached so far.
  pub chain : exports s xs ≡ held_by s c xs
  chain = exports-held xs s c more h ks

  -- The state holds the client that the calls lead to.
  pub chain-holds : Holds (state_after s xs) (reached c (map (λ x. x.call) xs)) more
  chain-holds = state-held xs s c more h ks

  -- What a host reads after each call is the client's own answer.
  pub chain-reads : map read_from (exports s xs) ≡ code_answers c (map (λ x. x.call) xs)
  chain-reads = ap (map read_from) chain ∙ reads_held more xs s c h ks

  -- Each code is made of the number and the length in its answer.
  pub chain-codes : All Coded (exports s xs)
  chain-codes = subst (All Coded) (sym chain) (codes-held more xs s c h ks)

  -- The bytes after the state and after the answer are as they were.
  pub chain-behind : map behind (exports s xs) ≡ map (λ x. (more, drop AnswerBytes.size x.answer)) xs
  chain-behind = ap (map behind) chain ∙ behind-held more xs s c h ks

pub fair-good : (xs : List Lending) → All Fair xs → All Good (map (λ x. x.call) xs)
fair-good [] ks = tt
fair-good (x ∷ xs) ks = (ks.0.bytes, fair-good xs ks.1)
