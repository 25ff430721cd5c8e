-- An exported call that is refused with a number that changes no state leaves every byte as it was, for any state and
-- any buffers.
use Prim.Native.Nat.{ℕ, ◌%◌, ◌<◌, ◌≤◌}
use mathlib.Core.Bool.{Bool, true, false, cond}
use mathlib.Core.List.{List, []}
use mathlib.Core.Option.{none, some}
use mathlib.Core.Path.{◌≡◌, refl, sym, ◌∙◌, ap}
use native.Mathlib.Omega.{arith}
use lib.Dec.{ltb}
use lib.ListN.{length}
use borrow.Author.Tests.{ltb-false}
use Rattle.std.specs.Prelude.{Result, Ok, Err}
use Rattle.paper.specs.Text.{Written, wrote, refuses13, refuses16, uid_hex, parse_uid}
use Rattle.lore.proofs.Choice.{by-test, either, clash}
use Rattle.ids.specs.declared.Id.{Id}
use Rattle.ids.specs.Ids.{id_of}
use Rattle.text.specs.declared.BadText.{BadText}
use Rattle.text.specs.Texts.{shown, written, parsed}
use Rattle.client.specs.declared.Client.{Client}
use Rattle.client.specs.declared.Outcome.{Outcome}
use Rattle.client.specs.declared.Refusal.{Refusal}
use Rattle.client.specs.declared.Refusal.TheVariants.{Io, Device, FirmwareTooLarge, CrcMismatch, BadInfo, Incompatible}
use Rattle.client.specs.declared.Refusal.TheVariants.{NoDevice, SeveralDevices, NoSuchUid, AmbiguousUid}
use Rattle.client.specs.declared.Refusal.TheVariants.{NotAddressable, DuplicateUid, BadPrefix, LongId, TableFull}
use Rattle.client.specs.declared.Refusal.TheVariants.{ShortBuffer, RetriesSpent, ShortVerify, SpansTooFar, OtherImage}
use Rattle.client.specs.declared.Refusal.TheVariants.{OutOfTurn}
use Rattle.client.specs.declared.Says.{Says}
use Rattle.client.specs.declared.Says.TheVariants.{Granted, Closing, Onward, Over, Refused}
use Rattle.client.specs.declared.Started.{Started}
use Rattle.client.specs.declared.Told.{Told}
use Rattle.client.specs.Numbers.{number_of, changes_no_state}
use Rattle.host_state.specs.State as State
use Rattle.host_state.specs.State.{loaded}
use Rattle.host_answer.specs.Numbers.{note_of, going, ending, refusing, outcome_note, refusal_note}
use Rattle.host_answer.specs.AnswerBytes as AnswerBytes
use Rattle.host_buffers.specs.Codes.{coded, Coded, written_code, writes, read_uid, put_uid}
use Rattle.host_buffers.proofs.codes.Laws.{code-number}
use Rattle.host_buffers.specs.Hosts.{code_of, lent, Requested, told_by, leaves, tells, starts, handed, asks, requests}
use Rattle.host_buffers.specs.Exports as Export
use Rattle.refinement.specs.Calls.{Call, start_select, start_deselect, start_attach, start_discover, start_info, start_erase}
use Rattle.refinement.specs.Calls.{start_flash, start_reset, start_set_baud, request, record', link_failed}
use Rattle.refinement.specs.Refusals.{keeps, begins}
use Rattle.refinement.proofs.refused.Starts.{leaves_kept, begins-kept, select-begins, deselect-begins, attach-begins}
use Rattle.refinement.proofs.refused.Starts.{attach-to-begins, discover-begins, info-begins, erase-begins, flash-begins}
use Rattle.refinement.proofs.refused.Starts.{reset-begins, set-baud-begins}
use Rattle.refinement.proofs.refused.Requests.{asked-refused}
use Rattle.refinement.proofs.refused.Records.{told-refused, failed-refused}
use Rattle.host_theory.specs.ExportedCalls.{buffer_of, bufferless, exported, made, held}

-- The number of an answer is a byte, and an answer whose number changes no state is a refusal.
refusal-number : (r : Refusal) → ((note_of (Refused r)).number ≡ number_of r) × (number_of r < 256)
unfolding note_of refusal_note refusing number_of
refusal-number Io = (refl, omega arith)
refusal-number (Device status) = (refl, omega arith)
refusal-number (FirmwareTooLarge size capacity) = (refl, omega arith)
refusal-number (CrcMismatch expected actual) = (refl, omega arith)
refusal-number BadInfo = (refl, omega arith)
refusal-number (Incompatible device k) = (refl, omega arith)
refusal-number NoDevice = (refl, omega arith)
refusal-number SeveralDevices = (refl, omega arith)
refusal-number NoSuchUid = (refl, omega arith)
refusal-number AmbiguousUid = (refl, omega arith)
refusal-number NotAddressable = (refl, omega arith)
refusal-number DuplicateUid = (refl, omega arith)
refusal-number BadPrefix = (refl, omega arith)
refusal-number LongId = (refl, omega arith)
refusal-number TableFull = (refl, omega arith)
refusal-number (ShortBuffer n) = (refl, omega arith)
refusal-number RetriesSpent = (refl, omega arith)
refusal-number ShortVerify = (refl, omega arith)
refusal-number SpansTooFar = (refl, omega arith)
refusal-number OtherImage = (refl, omega arith)
refusal-number OutOfTurn = (refl, omega arith)

outcome-number : (o : Outcome) → (changes_no_state (outcome_note o).number ≡ false) × ((outcome_note o).number < 256)
unfolding outcome_note ending
outcome-number Outcome.Quiet = (refl, omega arith)
outcome-number (Outcome.Heard h) = (refl, omega arith)
outcome-number (Outcome.Attached any) = (refl, omega arith)
outcome-number Outcome.Found = (refl, omega arith)
outcome-number (Outcome.Knows info) = (refl, omega arith)
outcome-number Outcome.Unaddressed = (refl, omega arith)

number-byte : (says : Says) → (note_of says).number < 256
unfolding note_of going
number-byte (Granted n) = omega arith
number-byte (Closing n) = omega arith
number-byte Onward = omega arith
number-byte (Over o) = (outcome-number o).1
number-byte (Refused r) = omega (arith, (refusal-number r).0, (refusal-number r).1)

refused-with : (says : Says) → changes_no_state (note_of says).number ≡ true
    → (r : Refusal) × ((says ≡ Refused r) × (keeps r ≡ true))
unfolding note_of going keeps
refused-with (Granted n) h = clash false h refl
refused-with (Closing n) h = clash false h refl
refused-with Onward h = clash false h refl
refused-with (Over o) h = clash (changes_no_state (outcome_note o).number) h (outcome-number o).0
refused-with (Refused r) h = (r, (refl, ap changes_no_state (sym (refusal-number r).0) ∙ h))

note-number : (says : Says) → code_of says % 256 ≡ (note_of says).number
unfolding code_of
note-number says = code-number (note_of says).number (note_of says).length (number-byte says)

pub said-number : (says : Says) → code_of says % 256 ≡ (note_of says).number
unfolding code_of
said-number says = code-number (note_of says).number (note_of says).length (number-byte says)

-- The client and the request buffer are as before the call.
abbrev Kept : Client → Call → Type 0
Kept c call = ((made c call).told.client ≡ c) × ((made c call).buffer ≡ buffer_of call)

module _ (c : Client) where
  start-kept : (s : Started) (good : Bool) (next : Client) → s ≡ begins c good next
      → changes_no_state (note_of s.says).number ≡ true → s.client ≡ c
  start-kept s good next b h =
      let k = refused-with s.says h in
      ap (λ (x : Started). x.client) b
      ∙ begins-kept c good next k.0 (ap (λ (x : Started). x.says) (sym b) ∙ k.1.0)

  pub kept : (call : Call) → changes_no_state (note_of (made c call).told.says).number ≡ true → Kept c call
  unfolding made told_by
  kept (start_select bytes bits) h = (start-kept _ _ _ (select-begins c bytes bits) h, refl)
  kept start_deselect h = (start-kept _ _ _ (deselect-begins c) h, refl)
  kept (start_attach none) h = (start-kept _ _ _ (attach-begins c) h, refl)
  kept (start_attach (some bytes)) h = (start-kept _ _ _ (attach-to-begins c bytes) h, refl)
  kept (start_discover given) h = (start-kept _ _ _ (discover-begins c given) h, refl)
  kept start_info h = (start-kept _ _ _ (info-begins c) h, refl)
  kept start_erase h = (start-kept _ _ _ (erase-begins c) h, refl)
  kept (start_flash image) h = (start-kept _ _ _ (flash-begins c image) h, refl)
  kept (start_reset bootloader in_boot) h = (start-kept _ _ _ (reset-begins c bootloader in_boot) h, refl)
  kept (start_set_baud baud bootloader in_boot) h = (start-kept _ _ _ (set-baud-begins c baud bootloader in_boot) h, refl)
  kept (request image buffer) h =
      let k = refused-with _ h in
      let e = asked-refused c image buffer k.0 k.1.0 in
      (e.0, e.1.0)
  kept (record' image bytes) h =
      let k = refused-with _ h in
      (told-refused c image bytes k.0 k.1.0 ∙ leaves_kept k.0 c k.1.1, refl)
  kept link_failed h =
      let k = refused-with _ h in
      (failed-refused c k.0 k.1.0 ∙ leaves_kept k.0 c k.1.1, refl)

lent_map : {A B : Type 0} (f : A → B) (n m : ℕ) (short : ℕ → A) (enough : A)
    → f (lent n m short enough) ≡ lent n m (λ code. f (short code)) (f enough)
unfolding lent
lent_map {A} f n m short enough =
    go (ltb n State.size) (ltb m AnswerBytes.size) (short (coded 16 State.size)) (short (coded 16 AnswerBytes.size))
  where
    go : (b d : Bool) (x y : A) → f (cond b x (cond d y enough)) ≡ cond b (f x) (cond d (f y) (f enough))
    go true d x y = refl
    go false true x y = refl
    go false false x y = refl

-- A call on buffers of any length. If one is too short, it is refused with the length needed and nothing is written.
-- Else it leaves what the client's own call does.
module _ (s a : List ℕ) where
  abbrev pub unheld : Call → ℕ → Requested
  unheld call code = record { code = code; state = s; buffer = buffer_of call; answer = a }

  tells-lent : (f : Client → Told)
      → bufferless (tells f s a) ≡ lent (length s) (length a)
      (λ code. record { code = code; state = s; buffer = []; answer = a })
      (held s a (record { told = f (loaded s); buffer = [] }))
  unfolding tells held handed
  tells-lent f = lent_map bufferless (length s) (length a)
      (λ (code : ℕ). record { code = code; state = s; answer = a }) (leaves (f (loaded s)) s a)

  starts-lent : (f : Client → Started)
      → bufferless (starts f s a) ≡ lent (length s) (length a)
      (λ code. record { code = code; state = s; buffer = []; answer = a })
      (held s a (record { told = told_by (f (loaded s)); buffer = [] }))
  unfolding starts
  starts-lent f = tells-lent (λ (c : Client). told_by (f c))

  pub exported-lent : (call : Call)
      → exported s a call ≡ lent (length s) (length a) (unheld call) (held s a (made (loaded s) call))
  unfolding exported made requests asks held
  exported-lent (start_select bytes bits) = starts-lent _
  exported-lent start_deselect = starts-lent _
  exported-lent (start_attach none) = starts-lent _
  exported-lent (start_attach (some bytes)) = starts-lent _
  exported-lent (start_discover given) = starts-lent _
  exported-lent start_info = starts-lent _
  exported-lent start_erase = starts-lent _
  exported-lent (start_flash image) = starts-lent _
  exported-lent (start_reset bootloader in_boot) = starts-lent _
  exported-lent (start_set_baud baud bootloader in_boot) = starts-lent _
  exported-lent (request image buffer) = refl
  exported-lent (record' image bytes) = tells-lent _
  exported-lent link_failed = tells-lent _

  -- No byte of the state or of the request buffer changes.
  abbrev Untouched : Call → Requested → Type 0
  Untouched call e = changes_no_state (e.code % 256) ≡ true → (e.state ≡ s) × (e.buffer ≡ buffer_of call)

  held-untouched : (call : Call) → Untouched call (held s a (made (loaded s) call))
  unfolding held handed leaves
  held-untouched call h =
      let k : changes_no_state (note_of (made (loaded s) call).told.says).number ≡ true =
      ap changes_no_state (sym (note-number (made (loaded s) call).told.says)) ∙ h in
      (rw k, (kept (loaded s) call k).1)

  pub untouched : (call : Call) → Untouched call (exported s a call)
  unfolding lent
  untouched call =
      rw (exported-lent call)
      (either (Untouched call) (ltb (length s) State.size) (λ h. (refl, refl))
      (either (Untouched call) (ltb (length a) AnswerBytes.size) (λ h. (refl, refl)) (held-untouched call)))

  -- With a state or an answer's buffer that is too short, no byte of the answer's buffer changes either.
  abbrev Unwritten : Call → Requested → Type 0
  Unwritten call e = (e.state ≡ s) × ((e.buffer ≡ buffer_of call) × (e.answer ≡ a))

  pub unwritten : (call : Call) → (State.size ≤ length s → AnswerBytes.size ≤ length a → ⊥)
      → Unwritten call (exported s a call)
  unfolding lent
  unwritten call n =
      rw (exported-lent call)
      (by-test (Unwritten call) (ltb (length s) State.size) (λ h. (refl, (refl, refl)))
      (λ h.
      by-test (Unwritten call) (ltb (length a) AnswerBytes.size) (λ k. (refl, (refl, refl)))
      (λ k. absurd (n (ltb-false (length s) State.size h) (ltb-false (length a) AnswerBytes.size k)))))

-- Where an id's text or a text's id is refused, its output buffer is as it was.
pub text-untouched : (id text : List ℕ) → ((Export.uid_hex id text).code % 256 ≡ 0 → ⊥)
    → (Export.uid_hex id text).bytes ≡ text
unfolding written writes written_code
text-untouched id text n = go (uid_hex id (length text)) n
  where
    go : (w : Written) → ((writes (shown w text)).code % 256 ≡ 0 → ⊥) → (writes (shown w text)).bytes ≡ text
    go (wrote t) n = absurd (n (code-number 0 (length t) (omega arith)))
    go refuses13 n = refl
    go (refuses16 k) n = refl

pub id-untouched : (text id : List ℕ) → ((Export.parse_uid text id).code % 256 ≡ 0 → ⊥)
    → (Export.parse_uid text id).bytes ≡ id
unfolding read_uid put_uid
id-untouched text id = go (parsed (parse_uid text))
  where
    go : (p : Result Id BadText) → ((read_uid p id).code % 256 ≡ 0 → ⊥) → (read_uid p id).bytes ≡ id
    go (Ok x) = either (λ (c : Coded). (c.code % 256 ≡ 0 → ⊥) → c.bytes ≡ id) (ltb (length id) (length (id_of x)))
        (λ n. refl) (λ n. absurd (n (code-number 0 (length (id_of x)) (omega arith))))
    go (Err bad) = λ n. refl
