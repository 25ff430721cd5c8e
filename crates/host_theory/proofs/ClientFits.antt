-- A client that fits its bytes still fits after every call: a start, a request, a record, a failed link.
use Prim.Native.Nat.{ℕ, ◌+◌, ◌-◌, ◌*◌, ◌%◌, ◌<◌, ◌≤◌, ◌^◌}
use mathlib.Core.Bool.{Bool, true, false, cond}
use mathlib.Core.List.{List, ◌++◌}
use mathlib.Core.Path.{◌≡◌, refl, sym, ap, subst}
use native.Mathlib.Omega.{arith}
use lib.Dec.{ltb, eqb}
use lib.ListN.{length, drop, replicate, length-take}
use borrow.Author.Tests.{ltb-false}
use Rattle.std.specs.Prelude as Std
use Rattle.paper.specs.Answers.{Answer, lost, answered, ok, device, answer}
use Rattle.paper.specs.Client.{payload_of}
use Rattle.paper.specs.Frame.{le, Frame, frame_bytes}
use Rattle.paper.specs.Hearing.{bits_of}
use Rattle.paper.proofs.Answered.{said_by, Found, answer-found, answer-end, answer-payload}
use Rattle.paper.proofs.Fields.{byte-below, bytes_take, bytes_drop}
use Rattle.paper.proofs.Frames.{frame-length}
use Rattle.paper.proofs.Readings.{Read, read_known}
use Rattle.paper.proofs.Words.{Bytes}
use Rattle.ids.specs.declared.Id.{Id}
use Rattle.ids.specs.Ids.{no_id, id_of, id_from}
use Rattle.theory.proofs.flash.WrittenBytes.{write-carries}
use Rattle.image.specs.Images.{paper_info}
use Rattle.select.specs.Selects.{asked}
use Rattle.hearing.specs.declared.Heard.{Heard}
use Rattle.walk_table.specs.declared.Table.{Table}
use Rattle.walk_table.specs.Rows.{no_table}
use Rattle.walk.specs.declared.Walk.{Walk}
use Rattle.walk.specs.declared.Phase.TheVariants.{Asked}
use Rattle.walk.specs.Moves.{no_walk, begin}
use Rattle.hearing.specs.Heard.{is_long}
use Rattle.walk_step.specs.declared.End.{End}
use Rattle.walk_step.specs.Steps.{Goes}
use Rattle.walk_step.specs.Steps as Steps
use Rattle.client.specs.declared.Client.{Client}
use Rattle.client.specs.declared.Job.{Job}
use Rattle.client.specs.declared.Job.TheVariants.{Informing, Erasing, Writing, Verifying, Resetting}
use Rattle.client.specs.declared.Phase.{Phase}
use Rattle.client.specs.declared.Phase.TheVariants.{Select, Demand, Leave}
use Rattle.client.specs.declared.Progress.{Progress}
use Rattle.client.specs.declared.Purpose.TheVariants.{Tell, Clear, Load}
use Rattle.std.specs.Prelude.{Result, Ok, Err}
use Rattle.client.specs.declared.Refusal.{Refusal}
use Rattle.client.specs.declared.Refusal.TheVariants.{Io, BadPrefix, ShortBuffer, OtherImage, OutOfTurn}
use Rattle.client.specs.declared.Reset.{Reset}
use Rattle.client.specs.declared.Says.{Says}
use Rattle.client.specs.declared.Search.{Search}
use Rattle.client.specs.declared.Search.TheVariants.{Probing, Parting, Seeking, Backing, Walking}
use Rattle.client.specs.declared.Started.{Started}
use Rattle.client.specs.declared.Told.{Told}
use Rattle.client.specs.declared.Turn.{Turn}
use Rattle.client.specs.declared.Turn.TheVariants.{Idle, Ready, Waiting}
use Rattle.client.specs.Clients.{on_turn, other_image, begun, idle, turned, holding, cleared, running, refuse, refuses}
use Rattle.client.specs.Clients.{over, stops, onward, making}
use Rattle.client_start.specs.Start.{starts, demands, bad_prefix, start_select, start_deselect, start_attach, start_attach_to}
use Rattle.client_start.specs.Start.{start_discover, start_info, start_erase, start_flash, resets, start_reset, start_set_baud}
use Rattle.client_demand.specs.Demands.{demand_of}
use Rattle.client_request.specs.Request.{asks, next_seed, seeded, search_frame, frame_of, handing, handed, Asking}
use Rattle.client_request.specs.Request.{withheld, granting, asked_for, request}
use Rattle.client_job.specs.declared.Next.{Next}
use Rattle.client_job.specs.declared.Then.{Then}
use Rattle.client_job.specs.declared.Then.TheVariants.{On, Over}
use Rattle.client_job.specs.Job.{on_then, accepted, declined}
use Rattle.client_record.specs.Answer.{goes, on_answer, tells}
use Rattle.client_record.specs.Record.{attaches, met, backed, stop_of, walked, probed, hears, answered_to, record'}
use Rattle.client_record.specs.Record.{link_failed}
use Rattle.host_turn.specs.Turns.{size_of}
use Rattle.host_answer.specs.Numbers.{heard_tag, outcome_note, refusal_note, note_of}
use Rattle.host_state.specs.State.{IdFits, TableFits, WalkFits, Fits}
use Rattle.host_state.proofs.Laws.{no-id-fits, no-table-fits, no-walk-fits}
use Rattle.refinement.proofs.client.RequestBytes.{payload-length}
use Rattle.host_theory.proofs.ByteArrays.{chosen, id-made-fits, heard-fits}
use Rattle.host_theory.proofs.WalkFits.{standing-fits, step_fits}
use Rattle.host_theory.proofs.TurnFits.{PhaseFits, TurnFits, JobFits, turn-flat, turn-back}
use Rattle.host_theory.proofs.NumbersFit.{SaysFits, ProgressFits, no-progress, going-on-fits, refusing-fits}
use Rattle.host_theory.proofs.NumbersFit.{bare-fits, end_fits}
use Rattle.host_theory.proofs.JobsFit.{ThenFits, NextFits, accepted-fits, declined-fits}

-- The answer to a start or a request fits.
pub record StartedFits (s : Started) : Type 0 where
  pub client : Fits s.client
  pub says : SaysFits s.says

onward-says : SaysFits Says.Onward
unfolding note_of
onward-says = going-on-fits 0 0 (omega arith)

-- A walk that begins under a prefix.
begin-fits : (x : Id) → IdFits x → WalkFits (begin x)
unfolding begin no_walk
begin-fits x h =
    standing-fits no_walk no-walk-fits x.bytes (8 * length (id_of x)) no_walk.place.marks h.bytes
    (omega (arith, length-take x.len x.bytes, h.bytes.0)) no-walk-fits.marks

module _ (c : Client) (h : Fits c) where
  begun-fits : (t : Turn) → TurnFits t → (x : Id) → IdFits x → (bits : ℕ) → bits < 2 ^ 8 → (w : Walk) → WalkFits w
      → Fits (begun c t x bits w)
  begun-fits t k x i bits b w v =
      record { seed = h.seed; id = h.id; turn = turn-flat t k; prefix = i; bits = b; walk = v }

  turned-fits : (t : Turn) → TurnFits t → Fits (turned c t)
  turned-fits t k = begun-fits t k c.front.prefix h.prefix c.front.bits h.bits c.walk h.walk

  idle-fits : Fits (idle c)
  unfolding idle
  idle-fits = begun-fits Idle tt no_id no-id-fits 0 (omega arith) no_walk no-walk-fits

  holding-fits : (any : Bool) (x : Id) → IdFits x → Fits (holding c any x)
  holding-fits any x k = record {
    seed = h.seed;
    id = k;
    turn = h.turn;
    prefix = h.prefix;
    bits = h.bits;
    walk = h.walk;
  }

  cleared-fits : Fits (cleared c)
  unfolding cleared
  cleared-fits = holding-fits false no_id no-id-fits

  seeded-fits : (seed : ℕ) → seed < 2 ^ 8 → Fits (seeded c seed)
  seeded-fits seed k = record {
    seed = k;
    id = h.id;
    turn = h.turn;
    prefix = h.prefix;
    bits = h.bits;
    walk = h.walk;
  }

  refuse-fits : (r : Refusal) → SaysFits (Says.Refused r) → StartedFits (refuse c r)
  refuse-fits r k = record { client = h; says = k }

-- The starts.
module _ (c : Client) (h : Fits c) where
  starts-fits : (p : Phase) → PhaseFits p → (x : Id) → IdFits x → (bits : ℕ) → bits < 2 ^ 8 → (w : Walk) → WalkFits w
      → StartedFits (starts c p x bits w)
  unfolding starts note_of refusal_note
  starts-fits p k x i bits b w v =
      chosen StartedFits (running c.front.turn) _ _ (λ e. refuse-fits c h OutOfTurn (bare-fits _))
      (λ e. record { client = begun-fits c h (Ready p) k x i bits b w v; says = onward-says })

  demands-fits : (p : Phase) → PhaseFits p → StartedFits (demands c p)
  unfolding demands
  demands-fits p k = starts-fits p k no_id no-id-fits 0 (omega arith) no_walk no-walk-fits

  bad-fits : StartedFits (bad_prefix c)
  unfolding bad_prefix note_of refusal_note
  bad-fits = chosen StartedFits (running c.front.turn) _ _ (λ e. refuse-fits c h OutOfTurn (bare-fits _))
      (λ e. refuse-fits c h BadPrefix (bare-fits _))

  pub select-fits : (bytes : List ℕ) (bits : ℕ) → Bytes bytes → StartedFits (start_select c bytes bits)
  unfolding start_select
  select-fits bytes bits k =
      chosen StartedFits (ltb 16 (length bytes)) _ _ (λ e. bad-fits)
      (λ e. chosen StartedFits (ltb (8 * length bytes) bits) _ _ (λ f. bad-fits)
      (λ f. starts-fits (Select Probing) tt (id_from bytes) (id-made-fits bytes (ltb-false 16 (length bytes) e) k) bits
      (omega (arith, ltb-false 16 (length bytes) e, ltb-false (8 * length bytes) bits f)) no_walk no-walk-fits))

  pub deselect-fits : StartedFits (start_deselect c)
  unfolding start_deselect
  deselect-fits = starts-fits (Select Parting) tt no_id no-id-fits 0 (omega arith) no_walk no-walk-fits

  pub attach-fits : StartedFits (start_attach c)
  unfolding start_attach
  attach-fits = starts-fits (Select (Seeking false)) tt no_id no-id-fits 0 (omega arith) no_walk no-walk-fits

  pub attach-to-fits : (bytes : List ℕ) → Bytes bytes → StartedFits (start_attach_to c bytes)
  unfolding start_attach_to
  attach-to-fits bytes k =
      chosen StartedFits (ltb 16 (length bytes)) _ _ (λ e. bad-fits)
      (λ e. starts-fits (Select (Seeking true)) tt (id_from bytes)
      (id-made-fits bytes (ltb-false 16 (length bytes) e) k) 0 (omega arith) no_walk no-walk-fits)

  pub discover-fits : (bytes : List ℕ) → Bytes bytes → StartedFits (start_discover c bytes)
  unfolding start_discover
  discover-fits bytes k =
      chosen StartedFits (ltb 16 (length bytes)) _ _ (λ e. bad-fits)
      (λ e. starts-fits (Select (Walking Asked)) tt no_id no-id-fits 0 (omega arith) (begin (id_from bytes))
      (begin-fits (id_from bytes) (id-made-fits bytes (ltb-false 16 (length bytes) e) k)))

  pub info-fits : StartedFits (start_info c)
  unfolding start_info size_of
  info-fits = demands-fits (Demand (Informing Tell)) (omega arith)

  pub erase-fits : StartedFits (start_erase c)
  unfolding start_erase size_of
  erase-fits = demands-fits (Demand (Informing Clear)) (omega arith)

  pub flash-starts-fits : (s : List ℕ) → length s < 2 ^ 64 → StartedFits (start_flash c s)
  unfolding start_flash size_of
  flash-starts-fits image k = demands-fits (Demand (Informing (Load (length image)))) k

  pub flash-fits : (image : List ℕ) → length image < 2 ^ 64 → StartedFits (start_flash c image)
  unfolding start_flash size_of
  flash-fits image k = demands-fits (Demand (Informing (Load (length image)))) k

  reset-starts-fits : (r : Reset) (b : Bool) → r.baud < 2 ^ 8 → StartedFits (resets c r b)
  unfolding resets
  reset-starts-fits reset in_boot k = chosen StartedFits in_boot _ _ (λ e. demands-fits (Demand (Resetting reset)) k)
      (λ e. demands-fits (Leave reset) k)

  resets-fits : (reset : Reset) (in_boot : Bool) → reset.baud < 2 ^ 8 → StartedFits (resets c reset in_boot)
  unfolding resets
  resets-fits reset in_boot k = chosen StartedFits in_boot _ _ (λ e. demands-fits (Demand (Resetting reset)) k)
      (λ e. demands-fits (Leave reset) k)

  pub reset-fits : (bootloader in_boot : Bool) → StartedFits (start_reset c bootloader in_boot)
  unfolding start_reset
  reset-fits bootloader in_boot = reset-starts-fits _ in_boot (omega arith)

  pub set-baud-fits : (baud : ℕ) (bootloader in_boot : Bool) → baud < 256
      → StartedFits (start_set_baud c baud bootloader in_boot)
  unfolding start_set_baud
  set-baud-fits baud bootloader in_boot k = reset-starts-fits _ in_boot k

-- Requests: none has a payload of more than 1,024 bytes, whatever the client.
payload-short : (c : Client) (p : Phase) (image : List ℕ) → length (frame_of c p image).payload ≤ 1024
unfolding frame_of search_frame demand_of payload_of le
payload-short c (Select s) image =
    omega (
      arith,
      payload-length (next_seed c.front.seed) (asked (asks c s).bits ((asks c s).count % 256)),
      length-take ((asks c s).count % 256) (bits_of (asks c s).bits ++ replicate 127 false),
    )
payload-short c (Demand (Informing why)) image = omega arith
payload-short c (Demand (Erasing why info address)) image = omega arith
payload-short c (Demand (Writing n info offset retries)) image =
    omega (arith, (write-carries (paper_info info) image offset).all, (write-carries (paper_info info) image offset).fits)
payload-short c (Demand (Verifying n info)) image = omega arith
payload-short c (Demand (Resetting reset)) image = omega arith
payload-short c (Leave reset) image = omega arith

frame_small : (c : Client) (p : Phase) (image : List ℕ) → length (frame_bytes (frame_of c p image)) < 2 ^ 64
frame_small c p image = omega (arith, frame-length (frame_of c p image), payload-short c p image)

handing-fits : (p : Phase) (n : ℕ) → n < 2 ^ 64 → SaysFits (handing p n)
unfolding handing note_of
handing-fits (Select s) n k = going-on-fits 1 n k
handing-fits (Demand j) n k = going-on-fits 1 n k
handing-fits (Leave reset) n k = going-on-fits 4 n k

module _ (c : Client) (h : Fits c) where
  handed-fits : (p : Phase) → PhaseFits p → Fits (handed c p)
  unfolding handed
  handed-fits (Select s) k = seeded-fits (turned c (Waiting (Select s))) (turned-fits c h (Waiting (Select s)) k)
      (next_seed c.front.seed) (omega arith)
  handed-fits (Demand j) k = turned-fits c h (Waiting (Demand j)) k
  handed-fits (Leave reset) k = idle-fits c h

  asked-fits : (p : Phase) → PhaseFits p → (image buffer : List ℕ) → StartedFits (asked_for c p image buffer).answer
  unfolding asked_for granting note_of refusal_note
  asked-fits p k image buffer =
      chosen (λ (o : Asking). StartedFits o.answer)
      (ltb (length buffer) (length (frame_bytes (frame_of c p image)))) _ _
      (λ e. refuse-fits c h (ShortBuffer _)
      (refusing-fits _ false _ 0 0 (frame_small c p image) (omega arith) (omega arith)))
      (λ e. record { client = handed-fits p k; says = handing-fits p _ (frame_small c p image) })

  pub request-fits : (image buffer : List ℕ) → StartedFits (request c image buffer).answer
  unfolding request note_of refusal_note
  request-fits image buffer = go c.front.turn (turn-back c.front.turn h.turn)
    where
      go : (t : Turn) → TurnFits t
          → StartedFits (on_turn t (withheld c OutOfTurn buffer)
          (λ p. cond (other_image p (length image)) (withheld c OtherImage buffer) (asked_for c p image buffer))
          (λ p. withheld c OutOfTurn buffer)).answer
      go Idle k = refuse-fits c h OutOfTurn (bare-fits _)
      go (Ready p) k =
          chosen (λ (a : Asking). StartedFits a.answer) (other_image p (length image)) _ _
          (λ e. refuse-fits c h OtherImage (bare-fits _)) (λ e. asked-fits p k image buffer)
      go (Waiting p) k = refuse-fits c h OutOfTurn (bare-fits _)

-- The answer to a record fits: the client, and everything beside it.
pub record ToldFits (t : Told) : Type 0 where
  pub client : Fits t.client
  pub says : SaysFits t.says
  pub rest : t.rest < 2 ^ 64
  pub progress : ProgressFits t.progress
  pub id : IdFits t.id
  pub found : TableFits t.found

module _ (c : Client) (h : Fits c) where
  ended-fits : (says : Says) → SaysFits says → (x : Id) → IdFits x → (t : Table) → TableFits t
      → (place : ℕ) → place < 2 ^ 64 → ToldFits (over c says x t place)
  unfolding over
  ended-fits says s x i t k at small =
      record { client = idle-fits c h; says = s; rest = small; progress = no-progress; id = i; found = k }

  over-fits : (says : Says) → SaysFits says → (x : Id) → IdFits x → (t : Table) → TableFits t
      → (at : ℕ) → at < 2 ^ 64 → ToldFits (over c says x t at)
  unfolding over
  over-fits says s x i t k at small =
      record { client = idle-fits c h; says = s; rest = small; progress = no-progress; id = i; found = k }

  stops-fits : (says : Says) → SaysFits says → (at : ℕ) → at < 2 ^ 64 → ToldFits (stops c says at)
  stops-fits says s at small = ended-fits says s no_id no-id-fits no_table no-table-fits at small

  onward-fits : (p : Phase) → PhaseFits p → (w : Walk) → WalkFits w → (at : ℕ) → at < 2 ^ 64
      → ToldFits (onward c p w at)
  unfolding onward
  onward-fits p k w v at small = record {
    client = begun-fits c h (Ready p) k c.front.prefix h.prefix c.front.bits h.bits w v;
    says = onward-says;
    rest = small;
    progress = no-progress;
    id = no-id-fits;
    found = no-table-fits;
  }

  refuses-fits : (r : Refusal) → SaysFits (Says.Refused r) → ToldFits (refuses c r)
  refuses-fits r s = record {
    client = h;
    says = s;
    rest = omega arith;
    progress = no-progress;
    id = no-id-fits;
    found = no-table-fits;
  }

making-fits : (t : Told) (p : Std.Option Progress) → ToldFits t → ProgressFits p → ToldFits (making t p)
making-fits t p h k = record {
  client = h.client;
  says = h.says;
  rest = h.rest;
  progress = k;
  id = h.id;
  found = h.found;
}

stop-says : (end : End) → SaysFits (stop_of end)
unfolding stop_of note_of refusal_note outcome_note
stop-says End.DuplicateUid = bare-fits _
stop-says End.LongId = bare-fits _
stop-says End.TableFull = bare-fits _
stop-says End.Unaddressed = end_fits 23 5 0 false

-- A record heard after a Select.
module _ (c : Client) (h : Fits c) (at : ℕ) (small : at < 2 ^ 64) where
  attaches-fits : (any : Bool) (x : Id) → IdFits x → ToldFits (attaches c any x at)
  unfolding attaches note_of outcome_note
  attaches-fits any x k = ended-fits (holding c any x) (holding-fits c h any x k) _
      (end_fits 0 2 0 any) x k no_table no-table-fits at small

  walked-fits : (g : Goes) (w : Walk) → WalkFits w → ToldFits (walked c g w at)
  unfolding walked note_of outcome_note
  walked-fits (Steps.On p) w v = onward-fits c h (Select (Walking p)) tt w v at small
  walked-fits Steps.Done w v = ended-fits (cleared c) (cleared-fits c h) _ (end_fits 0 3 0 false) no_id no-id-fits
      w.found v.found at small
  walked-fits (Steps.Stopped end) w v = stops-fits c h _ (stop-says end) at small

  backed-fits : (given : Bool) → ToldFits (backed c given at)
  unfolding backed note_of refusal_note
  backed-fits given =
      chosen ToldFits given _ _ (λ e. ended-fits (cleared c) (cleared-fits c h) _ (bare-fits _) c.front.prefix
      h.prefix no_table no-table-fits at small)
      (λ e. stops-fits (cleared c) (cleared-fits c h) _ (bare-fits _) at small)

  module _ (x : Id) (k : IdFits x) where
    met-fits : (given : Bool) (d : Heard) → ToldFits (met c given d x at)
    unfolding met note_of refusal_note
    met-fits given Heard.Nothing =
        chosen ToldFits given _ _ (λ e. ended-fits c h _ (bare-fits _) c.front.prefix
        h.prefix no_table no-table-fits at small) (λ e. stops-fits c h _ (bare-fits _) at small)
    met-fits given Heard.One = attaches-fits true x k
    met-fits given Heard.TooLong = stops-fits c h _ (bare-fits _) at small
    met-fits given Heard.Unaddressed =
        chosen ToldFits given _ _ (λ e. stops-fits c h _ (bare-fits _) at small)
        (λ e. attaches-fits false no_id no-id-fits)
    met-fits given Heard.Garble = onward-fits c h (Select (Backing given)) tt c.walk h.walk at small

    probed-fits : (d : Heard) → ToldFits (probed c d x at)
    unfolding probed note_of refusal_note outcome_note
    probed-fits d =
        chosen ToldFits (is_long d) _ _ (λ e. stops-fits c h _ (bare-fits _) at small)
        (λ e. ended-fits c h _ (end_fits 0 1 (heard_tag d) false) x k no_table no-table-fits at small)

    hears-fits : (s : Search) (d : Heard) → ToldFits (hears c s d x at)
    unfolding hears note_of outcome_note
    hears-fits Probing d = probed-fits d
    hears-fits Parting d = stops-fits (cleared c) (cleared-fits c h) _ (end_fits 0 0 0 false) at small
    hears-fits (Seeking given) d = met-fits given d
    hears-fits (Backing given) d = backed-fits given
    hears-fits (Walking q) d = walked-fits _ _ (step_fits c.walk h.walk x k q d)

-- A record heard after a job's request: the payload and status of its reply are bytes of the record.
payload-bytes : (bytes payload : List ℕ) (end : ℕ) → Bytes bytes → answer bytes ≡ answered (ok payload) end
    → Bytes payload
payload-bytes bytes payload end b e =
    subst Bytes (answer-payload bytes payload end e).1
    (bytes_take (length payload) (drop (end - (2 + length payload)) bytes)
    (bytes_drop (end - (2 + length payload)) bytes b))

status-fits : (s : List ℕ) (status end : ℕ) → Bytes s → answer s ≡ answered (device status) end → status < 256
status-fits bytes status end b e = go f.right f.frame framed f.says
  where
    f : Found bytes (device status) end
    f = answer-found bytes (device status) end e

    known : Read (drop f.from bytes) f.skip f.frame f.right
    known = read_known _ _ _ _ f.reads

    framed : f.frame.status < 256
    framed =
        subst (λ (n : ℕ). n < 256) (sym (ap (λ (x : Frame). x.status) known.frame))
        (byte-below (drop f.skip (drop f.from bytes)) 2
        (bytes_drop f.skip (drop f.from bytes) (bytes_drop f.from bytes b)))

    go : (right : Bool) (x : Frame) → x.status < 256 → said_by right x ≡ device status → status < 256
    go true x k q = which (eqb x.status 1) q
      where
        which : (b : Bool) → cond b (ok x.payload) (device x.status) ≡ device status → status < 256
        which true q = absurd (let z : ◌≡◌ {A = ℕ} 0 1 = cc in omega arith)
        which false q = let same : x.status ≡ status = cc in omega arith
    go false x k q = let same : ◌≡◌ {A = ℕ} 3 status = cc in omega arith

status-byte : (bytes : List ℕ) (status end : ℕ) → Bytes bytes
    → answer bytes ≡ answered (device status) end → status < 256
status-byte bytes status end b e = go f.right f.frame framed f.says
  where
    f : Found bytes (device status) end
    f = answer-found bytes (device status) end e

    known : Read (drop f.from bytes) f.skip f.frame f.right
    known = read_known _ _ _ _ f.reads

    framed : f.frame.status < 256
    framed =
        subst (λ (n : ℕ). n < 256) (sym (ap (λ (x : Frame). x.status) known.frame))
        (byte-below (drop f.skip (drop f.from bytes)) 2
        (bytes_drop f.skip (drop f.from bytes) (bytes_drop f.from bytes b)))

    go : (right : Bool) (x : Frame) → x.status < 256 → said_by right x ≡ device status → status < 256
    go true x k q = which (eqb x.status 1) q
      where
        which : (b : Bool) → cond b (ok x.payload) (device x.status) ≡ device status → status < 256
        which true q = absurd (let z : ◌≡◌ {A = ℕ} 0 1 = cc in omega arith)
        which false q = let same : x.status ≡ status = cc in omega arith
    go false x k q = let same : ◌≡◌ {A = ℕ} 3 status = cc in omega arith

module _ (c : Client) (h : Fits c) where
  goes-fits : (n : Next) → NextFits n → (at : ℕ) → at < 2 ^ 64 → ToldFits (goes c n at)
  unfolding goes
  goes-fits n k at small = go n.then k.then
    where
      go : (t : Result Then Refusal) → ThenFits t → ToldFits
          (on_then t (λ job. making (onward c (Demand job) c.walk at) n.progress)
          (λ o. making (stops c (Says.Over o) at) n.progress) (λ r. stops c (Says.Refused r) at))
      go (Ok (On job)) w = making-fits _ _ (onward-fits c h (Demand job) w c.walk h.walk at small) k.progress
      go (Ok (Over o)) w = making-fits _ _ (stops-fits c h (Says.Over o) w at small) k.progress
      go (Err r) w = stops-fits c h (Says.Refused r) w at small

module _ (c : Client) (h : Fits c) (image bytes : List ℕ) (small : length image < 2 ^ 64) (few : length bytes < 2 ^ 64)
    (i : Bytes image) (b : Bytes bytes) where
  tells-fits : (j : Job) → JobFits j → ToldFits (tells c j image bytes)
  unfolding tells note_of refusal_note
  tells-fits j k = go (answer bytes) refl
    where
      go : (a : Answer) → answer bytes ≡ a
          → ToldFits (on_answer a (stops c (Says.Refused Io) (length bytes))
          (λ payload end. goes c (accepted j payload image) end) (λ status end. goes c (declined j status) end))
      go lost e = stops-fits c h (Says.Refused Io) (bare-fits _) (length bytes) few
      go (answered (ok payload) end) e =
          goes-fits c h (accepted j payload image)
          (accepted-fits payload image (payload-bytes bytes payload end b e) i small j k) end
          (omega (arith, answer-end bytes (ok payload) end e))
      go (answered (device status) end) e =
          goes-fits c h (declined j status) (declined-fits status (status-fits bytes status end b e) j k) end
          (omega (arith, answer-end bytes (device status) end e))

  answered-fits : (p : Phase) → PhaseFits p → ToldFits (answered_to c p image bytes)
  unfolding answered_to note_of outcome_note
  answered-fits (Select s) k = hears-fits c h (length bytes) few _ (heard-fits bytes b) s _
  answered-fits (Demand j) k = tells-fits j k
  answered-fits (Leave reset) k = stops-fits c h _ (end_fits 0 0 0 false) (length bytes) few

  pub record-fits : ToldFits (record' c image bytes)
  unfolding record' note_of refusal_note
  record-fits = go c.front.turn (turn-back c.front.turn h.turn)
    where
      go : (t : Turn) → TurnFits t
          → ToldFits (on_turn t (refuses c OutOfTurn) (λ p. refuses c OutOfTurn)
          (λ p. cond (other_image p (length image)) (refuses c OtherImage) (answered_to c p image bytes)))
      go Idle k = refuses-fits c h OutOfTurn (bare-fits _)
      go (Ready p) k = refuses-fits c h OutOfTurn (bare-fits _)
      go (Waiting p) k = chosen ToldFits (other_image p (length image)) _ _
          (λ e. refuses-fits c h OtherImage (bare-fits _)) (λ e. answered-fits p k)

-- A failed link.
pub failed-fits : (c : Client) → Fits c → ToldFits (link_failed c)
unfolding link_failed note_of refusal_note
failed-fits c h = go c.front.turn
  where
    go : (t : Turn) → ToldFits (on_turn t (refuses c OutOfTurn) (λ p. refuses c OutOfTurn)
        (λ p. stops c (Says.Refused Io) 0))
    go Idle = refuses-fits c h OutOfTurn (bare-fits _)
    go (Ready p) = refuses-fits c h OutOfTurn (bare-fits _)
    go (Waiting p) = stops-fits c h (Says.Refused Io) (bare-fits _) 0 (omega arith)
