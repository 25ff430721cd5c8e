-- The code's answers to any calls, in any order, are document 01's.
use Prim.Native.Nat.{ℕ, ◌*◌}
use mathlib.Core.Bool.{Bool, true, false, ◌&&◌, cond}
use mathlib.Core.List.{List, [], ◌∷◌, ◌++◌}
use mathlib.Core.Option.{Option, none, some}
use mathlib.Core.Path.{◌≡◌, refl, sym, ◌∙◌, ap, ap₂}
use native.Mathlib.Omega.{arith}
use lib.Dec.{leb, ltb}
use lib.ListN.{length, drop}
use Rattle.std.specs.Prelude as Std
use Rattle.std.proofs.lemmas.Option.{none-some, same_Some}
use Rattle.lore.proofs.Choice.{either}
use Rattle.paper.specs.Client as Paper
use Rattle.paper.specs.Client.{Says, within_longest, other_length, bytes_of, handing, seed_after, reading, place, cleared}
use Rattle.paper.specs.Count.{All}
use Rattle.paper.specs.Hearing.{Id, bits_of, on_some}
use Rattle.paper.specs.Talk.{Ask, select, demand, leave, AnswerTo}
use Rattle.paper.proofs.Words.{Bytes}
use Rattle.theory.specs.OperationMachine as OperationMachine
use Rattle.theory.specs.OperationMachine.{probing, parting, seeking, walking, tell, clear, load, informing, Phase}
use Rattle.theory.specs.OperationMachine.{selecting, demanding, Then, to, ends, refuses, step, starting}
use Rattle.theory.specs.ClientMachine as Machine
use Rattle.theory.specs.ClientMachine.{Brief, Turn, idle, ready, waiting, turned, lends, settle, unchanged, fails}
use Rattle.theory.specs.ClientMachine.{resets, handed_out, grant}
use Rattle.theory.proofs.client.ClientsFit.{FitsTurn, Fits, turn-sound, fresh-fits, start_select-fits}
use Rattle.theory.proofs.client.ClientsFit.{start_deselect-fits, start_attach-fits, start_discover-fits, start_info-fits}
use Rattle.theory.proofs.client.ClientsFit.{start_erase-fits, start_flash-fits, start_reset-fits, start_set_baud-fits}
use Rattle.theory.proofs.client.ClientsFit.{request-fits, record-fits, link_failed-fits}
use Rattle.theory.proofs.walk.CarriedIds.{heard-bytes}
use Rattle.theory.proofs.client.HeldIds.{Holds, fresh_holds, start_select-holds, start_deselect-holds, start_attach-holds}
use Rattle.theory.proofs.client.HeldIds.{start_discover-holds, start_info-holds, start_erase-holds, start_flash-holds}
use Rattle.theory.proofs.client.HeldIds.{start_reset-holds, start_set_baud-holds, request-holds, record-holds}
use Rattle.theory.proofs.client.HeldIds.{link_failed-holds}
use Rattle.theory.proofs.client.MachineIsClient.{paper_of, fresh-sim, start_select-sim, start_deselect-sim}
use Rattle.theory.proofs.client.MachineIsClient.{start_attach-sim, start_discover-sim, start_info-sim, start_erase-sim}
use Rattle.theory.proofs.client.MachineIsClient.{start_flash-sim, start_reset-sim, start_set_baud-sim, request-sim}
use Rattle.theory.proofs.client.MachineIsClient.{record-sim, link_failed-sim}
use Rattle.ids.specs.declared.Id as CodeIds
use Rattle.ids.specs.Ids.{no_id, id_from}
use Rattle.walk_table.specs.Rows.{no_table}
use Rattle.ids.proofs.Laws.{id-of-from}
use Rattle.walk.specs.Moves.{no_walk}
use Rattle.client.specs.declared.Client.{Client}
use Rattle.client.specs.declared.Turn.TheVariants.{Idle}
use Rattle.client.specs.Clients as CodeClients
use Rattle.client_request.specs.Request as CodeRequest
use Rattle.client_record.specs.Record as CodeRecord
use Rattle.client.specs.Numbers.{number_of, carried_by, progress_of, says_of}
use Rattle.refinement.specs.CodeClient.{client_of, record_of, refused_as, shown_says, started_as, told_as, asked_as}
use Rattle.refinement.specs.Calls.{Call, start_select, start_deselect, start_attach, start_discover, start_info}
use Rattle.refinement.specs.Calls.{start_erase, start_flash, start_reset, start_set_baud, request, record', link_failed}
use Rattle.refinement.specs.Calls.{Good, Reply, said_by, asked_of, paper_call, started_by, asked_by, told_by, code_call}
use Rattle.refinement.specs.Calls.{attached_to, paper_answer, code_answer, paper_answers, code_answers, reached, Rests}
use Rattle.refinement.proofs.client.AnswersRead.{Readable, ReadableThen, io-read, image-read, turn-read}
use Rattle.refinement.proofs.client.AnswersRead.{onward-read, phase-read}
use Rattle.refinement.proofs.client.RequestBytes.{request-asked}
use Rattle.refinement.proofs.client.StartAnswers.{select-started, deselect-started, attach-started}
use Rattle.refinement.proofs.client.StartAnswers.{attach-to-started}
use Rattle.refinement.proofs.client.StartAnswers.{discover-started, info-started, erase-started, flash-started}
use Rattle.refinement.proofs.client.StartAnswers.{reset-started, baud-started}
use Rattle.refinement.proofs.client.RecordAnswers.{record-told, failed-told}

-- The machine's answer to a call, and its client after it.
abbrev pub settled_by : Machine.Told → Reply × Machine.Client
settled_by t = (record { says = t.says; rest = t.rest; buffer = [] }, t.client)

abbrev pub handed_by : Machine.Asked → Reply × Machine.Client
handed_by a = (record { says = a.says; rest = 0; buffer = a.buffer }, a.client)

machine_call : Machine.Client → Call → Reply × Machine.Client
machine_call c (start_select bytes bits) = settled_by (Machine.start_select c bytes bits)
machine_call c start_deselect = settled_by (Machine.start_deselect c)
machine_call c (start_attach uid) = settled_by (Machine.start_attach c uid)
machine_call c (start_discover given) = settled_by (Machine.start_discover c given)
machine_call c start_info = settled_by (Machine.start_info c)
machine_call c start_erase = settled_by (Machine.start_erase c)
machine_call c (start_flash image) = settled_by (Machine.start_flash c image)
machine_call c (start_reset bootloader in_boot) = settled_by (Machine.start_reset c bootloader in_boot)
machine_call c (start_set_baud baud bootloader in_boot) = settled_by (Machine.start_set_baud c baud bootloader in_boot)
machine_call c (request image buffer) = handed_by (Machine.request c image buffer)
machine_call c (record' image bytes) = settled_by (Machine.record' c image bytes)
machine_call c link_failed = settled_by (Machine.link_failed c)

abbrev pub in_paper : Reply × Machine.Client → Reply × Paper.Client
in_paper r = (r.0, paper_of r.1)

abbrev pub in_code : Reply × Machine.Client → Reply × Client
in_code r = (r.0, client_of r.1)

paper-call : (c : Machine.Client) → Fits c → (call : Call) → paper_call (paper_of c) call ≡ in_paper (machine_call c call)
unfolding paper_call machine_call
paper-call c f (start_select bytes bits) = ap said_by (start_select-sim c bytes bits)
paper-call c f start_deselect = ap said_by (start_deselect-sim c)
paper-call c f (start_attach uid) = ap said_by (start_attach-sim c uid)
paper-call c f (start_discover given) = ap said_by (start_discover-sim c given)
paper-call c f start_info = ap said_by (start_info-sim c)
paper-call c f start_erase = ap said_by (start_erase-sim c)
paper-call c f (start_flash image) = ap said_by (start_flash-sim c image)
paper-call c f (start_reset bootloader in_boot) = ap said_by (start_reset-sim c bootloader in_boot)
paper-call c f (start_set_baud baud bootloader in_boot) = ap said_by (start_set_baud-sim c baud bootloader in_boot)
paper-call c f (request image buffer) = ap asked_of (request-sim c image buffer)
paper-call c f (record' image bytes) = ap said_by (record-sim c (turn-sound c.turn f.turn) image bytes)
paper-call c f link_failed = ap said_by (link_failed-sim c)

-- A start's answer, read as document 01's.
pub started-read : (c : Machine.Client) (good : Bool) (ph : Phase)
    → started_by (started_as (Machine.start c good ph)) ≡ in_code (settled_by (Machine.start c good ph))
unfolding Machine.start settle refused_as says_of number_of carried_by progress_of
started-read c good ph = go c.turn good
  where
    go : (t : Turn) (b : Bool) → started_by (started_as (Machine.start (turned c t) b ph))
        ≡ in_code (settled_by (Machine.start (turned c t) b ph))
    go idle true = refl
    go idle false = refl
    go (ready p) b = refl
    go (waiting p) b = refl

-- A request's answer, read as document 01's.
handing-read : (q : Ask) (n : ℕ) → says_of (shown_says (handing q n)).says Std.None no_id no_table ≡ handing q n
unfolding says_of
handing-read (select p) n = refl
handing-read (demand d) n = refl
handing-read (leave d) n = refl

asked-read : (c : Machine.Client) (image buffer : List ℕ)
    → asked_by (asked_as (Machine.request c image buffer)) ≡ in_code (handed_by (Machine.request c image buffer))
unfolding Machine.request grant refused_as says_of number_of carried_by
asked-read c image buffer = go c.turn
  where
    Read : Machine.Asked → Type 0
    Read a = asked_by (asked_as a) ≡ in_code (handed_by a)

    go : (t : Turn) → Read (Machine.request (turned c t) image buffer)
    go idle = refl
    go (ready ph) = either Read (other_length (lends ph) image) refl
        (either Read (ltb (length buffer) (length bytes)) refl
        (ap (λ (s : Says). (
          record { says = s; rest = 0; buffer = bytes ++ drop (length bytes) buffer },
          client_of
              (record { seed = seed_after (OperationMachine.request ph) c.seed; id = c.id; turn = handed_out ph }),
        ))
        (handing-read (OperationMachine.request ph) (length bytes))))
      where
        bytes : List ℕ
        bytes = bytes_of (OperationMachine.request ph) (seed_after (OperationMachine.request ph) c.seed) image
    go (waiting ph) = refl

-- An answer that reads back as the same answer.
said : (t : Machine.Told) → Readable t.says → told_by (told_as t) ≡ in_code (settled_by t)
said t r = ap (λ (s : Says). (record { says = s; rest = t.rest; buffer = [] }, client_of t.client)) r

settle_read : (c : Machine.Client) (p : Option (ℕ × ℕ)) (t : Then) (at : ℕ) → ReadableThen p t
    → Readable (settle c p t at).says
unfolding settle
settle_read c p (to ph) at r = onward-read p
settle_read c p (ends o) at r = r
settle_read c p (refuses n carries) at r = r

record-read : (c : Machine.Client) → Fits c → (image bytes : List ℕ) → Readable (Machine.record' c image bytes).says
unfolding Machine.record'
record-read c f image bytes = go c.turn f.turn
  where
    go : (t : Turn) → FitsTurn t → Readable (Machine.record' (turned c t) image bytes).says
    go idle w = turn-read
    go (ready ph) w = turn-read
    go (waiting ph) w = lent (other_length (lends ph) image) (reading (OperationMachine.request ph) image bytes)
      where
        lent : (b : Bool) (o : Option (AnswerTo (OperationMachine.request ph)))
            → Readable (cond b (unchanged (turned c (waiting ph)) 20 [])
            (on_some o (fails (turned c (waiting ph)) (place (OperationMachine.request ph) bytes))
            (λ a. settle (record {
              seed = c.seed;
              id = cleared (OperationMachine.request ph) c.id;
              turn = waiting ph;
            })
            (step ph a).progress (step ph a).then (place (OperationMachine.request ph) bytes)))).says
        lent true o = image-read
        lent false none = io-read
        lent false (some a) = settle_read _ (step ph a).progress (step ph a).then
            (place (OperationMachine.request ph) bytes)
            (phase-read ph w a)

failed-read : (c : Machine.Client) → Readable (Machine.link_failed c).says
unfolding Machine.link_failed
failed-read c = go c.turn
  where
    go : (t : Turn) → Readable (Machine.link_failed (turned c t)).says
    go idle = turn-read
    go (ready ph) = turn-read
    go (waiting ph) = io-read

-- The calls of a round, read as document 01's. Nothing is required of a request, a record or a failed link.
pub request-call : (c : Machine.Client) → Fits c → (image buffer : List ℕ)
    → asked_by (CodeRequest.request (client_of c) image buffer) ≡ in_code (handed_by (Machine.request c image buffer))
request-call c f image buffer = ap asked_by (request-asked c f image buffer) ∙ asked-read c image buffer

pub record-call : (c : Machine.Client) → Fits c → (image bytes : List ℕ)
    → told_by (CodeRecord.record' (client_of c) image bytes) ≡ in_code (settled_by (Machine.record' c image bytes))
record-call c f image bytes = ap told_by (record-told c f image bytes)
    ∙ said (Machine.record' c image bytes) (record-read c f image bytes)

pub failed-call : (c : Machine.Client)
    → told_by (CodeRecord.link_failed (client_of c)) ≡ in_code (settled_by (Machine.link_failed c))
failed-call c = ap told_by (failed-told c) ∙ said (Machine.link_failed c) (failed-read c)

code-call : (c : Machine.Client) → Fits c → (call : Call) → Good call
    → code_call (client_of c) call ≡ in_code (machine_call c call)
unfolding code_call machine_call Machine.start_select Machine.start_deselect Machine.start_attach Machine.start_discover
    Machine.start_info Machine.start_erase Machine.start_flash Machine.start_reset Machine.start_set_baud
code-call c f (start_select bytes bits) g =
    ap started_by (select-started c bytes bits)
    ∙ started-read c (within_longest bytes && (leb bits 128 && leb bits (8 * length bytes)))
    (selecting (probing bytes bits))
code-call c f start_deselect g = ap started_by (deselect-started c) ∙ started-read c true (selecting parting)
code-call c f (start_attach none) g = ap started_by (attach-started c) ∙ started-read c true (selecting (seeking none))
code-call c f (start_attach (some given)) g =
    ap started_by (attach-to-started c given) ∙ started-read c (within_longest given) (selecting (seeking (some given)))
code-call c f (start_discover given) g =
    ap started_by (discover-started c given g)
    ∙ started-read c (within_longest given) (selecting (walking (starting (bits_of given))))
code-call c f start_info g = ap started_by (info-started c) ∙ started-read c true (demanding (informing tell))
code-call c f start_erase g = ap started_by (erase-started c) ∙ started-read c true (demanding (informing clear))
code-call c f (start_flash image) g =
    ap started_by (flash-started c image) ∙ started-read c true (demanding (informing (load (length image))))
code-call c f (start_reset bootloader in_boot) g =
    ap started_by (reset-started c bootloader in_boot) ∙ started-read c true (resets bootloader none in_boot)
code-call c f (start_set_baud baud bootloader in_boot) g =
    ap started_by (baud-started c baud bootloader in_boot) ∙ started-read c true (resets bootloader (some baud) in_boot)
code-call c f (request image buffer) g = request-call c f image buffer
code-call c f (record' image bytes) g = record-call c f image bytes
code-call c f link_failed g = failed-call c

call_fits : (c : Machine.Client) → Fits c → (call : Call) → Fits (machine_call c call).1
unfolding machine_call
call_fits c f (start_select bytes bits) = start_select-fits c f bytes bits
call_fits c f start_deselect = start_deselect-fits c f
call_fits c f (start_attach uid) = start_attach-fits c f uid
call_fits c f (start_discover given) = start_discover-fits c f given
call_fits c f start_info = start_info-fits c f
call_fits c f start_erase = start_erase-fits c f
call_fits c f (start_flash image) = start_flash-fits c f image
call_fits c f (start_reset bootloader in_boot) = start_reset-fits c f bootloader in_boot
call_fits c f (start_set_baud baud bootloader in_boot) = start_set_baud-fits c f baud bootloader in_boot
call_fits c f (request image buffer) = request-fits c f image buffer
call_fits c f (record' image bytes) = record-fits c f image bytes
call_fits c f link_failed = link_failed-fits c f

call-bytes : (c : Machine.Client) → Holds Bytes c → (call : Call) → Good call → Holds Bytes (machine_call c call).1
unfolding machine_call
call-bytes c b (start_select bytes bits) g = start_select-holds Bytes c b bytes bits g
call-bytes c b start_deselect g = start_deselect-holds Bytes c b
call-bytes c b (start_attach uid) g = start_attach-holds Bytes c b uid g
call-bytes c b (start_discover given) g = start_discover-holds Bytes c b given
call-bytes c b start_info g = start_info-holds Bytes c b
call-bytes c b start_erase g = start_erase-holds Bytes c b
call-bytes c b (start_flash image) g = start_flash-holds Bytes c b image
call-bytes c b (start_reset bootloader in_boot) g = start_reset-holds Bytes c b bootloader in_boot
call-bytes c b (start_set_baud baud bootloader in_boot) g = start_set_baud-holds Bytes c b baud bootloader in_boot
call-bytes c b (request image buffer) g = request-holds Bytes c b image buffer
call-bytes c b (record' image bytes) g = record-holds Bytes c b image bytes (heard-bytes bytes g)
call-bytes c b link_failed g = link_failed-holds Bytes c b

pub attached-back : (c : Machine.Client) → Fits c → attached_to (client_of c) ≡ c.id
unfolding attached_to
attached-back c f = go c.turn c.id f.id
  where
    go : (t : Turn) (x : Option Id) → Brief x → attached_to (client_of (record { seed = c.seed; id = x; turn = t })) ≡ x
    go idle none b = refl
    go idle (some x) b = ap some (id-of-from x b)
    go (ready ph) none b = refl
    go (ready ph) (some x) b = ap some (id-of-from x b)
    go (waiting ph) none b = refl
    go (waiting ph) (some x) b = ap some (id-of-from x b)

pub seed-of : (c : Machine.Client) → (client_of c).front.seed ≡ c.seed
seed-of c = go c.turn
  where
    go : (t : Turn) → (client_of (turned c t)).front.seed ≡ c.seed
    go idle = refl
    go (ready ph) = refl
    go (waiting ph) = refl

same_answer : (r : Reply) (c : Machine.Client) → Fits c → code_answer (in_code (r, c)) ≡ paper_answer (in_paper (r, c))
unfolding paper_of
same_answer r c f = λ i. record { reply = r; seed = seed-of c i; id = attached-back c f i }

agrees : (c : Machine.Client) → Fits c → (calls : List Call) → All Good calls
    → code_answers (client_of c) calls ≡ paper_answers (paper_of c) calls
unfolding code_answers paper_answers
agrees c f [] g = refl
agrees c f (call ∷ calls) g =
    ap (λ (r : Reply × Client). code_answer r ∷ code_answers r.1 calls) (code-call c f call g.0)
    ∙ ap₂ ◌∷◌ answer (agrees (machine_call c call).1 (call_fits c f call) calls g.1)
    ∙ sym (ap (λ (r : Reply × Paper.Client). paper_answer r ∷ paper_answers r.1 calls) (paper-call c f call))
  where
    after : Machine.Client
    after = (machine_call c call).1

    answer : code_answer (in_code (machine_call c call)) ≡ paper_answer (in_paper (machine_call c call))
    answer = same_answer (machine_call c call).0 after (call_fits c f call)

-- The code's new client is the machine's.
pub new-client : CodeClients.fresh ≡ client_of Machine.fresh
unfolding CodeClients.fresh Machine.fresh
new-client = refl

-- Every answer of the code is document 01's, also to failed links and to calls out of turn.
pub calls-agree : (calls : List Call) → All Good calls
    → code_answers CodeClients.fresh calls ≡ paper_answers Paper.fresh calls
calls-agree calls g = rw (new-client, ← fresh-sim) (agrees Machine.fresh fresh-fits calls g)

-- A client that calls lead to: the code's client for a client of the machine that fits.
record Reached (d : Client) : Type 0 where
  machine : Machine.Client
  fits : Fits machine
  bytes : Holds Bytes machine
  client : d ≡ client_of machine

reaches : (c : Machine.Client) → Fits c → Holds Bytes c → (calls : List Call) → All Good calls
    → Reached (reached (client_of c) calls)
unfolding reached
reaches c f b [] g = record { machine = c; fits = f; bytes = b; client = refl }
reaches c f b (call ∷ calls) g =
    rw (code-call c f call g.0)
    (reaches (machine_call c call).1 (call_fits c f call) (call-bytes c b call g.0) calls g.1)

idle-is : (c : Machine.Client) → Fits c → Holds Bytes c → (client_of c).front.turn ≡ Idle → Rests (client_of c)
idle-is c f b e = go c.turn e
  where
    go : (t : Turn) → (client_of (turned c t)).front.turn ≡ Idle → Rests (client_of (turned c t))
    go idle e = record { seed = c.seed; byte = f.seed; id = c.id; brief = f.id; bytes = b.id; client = refl }
    go (ready ph) e = absurd (let z : ◌≡◌ {A = ℕ} 0 1 = cc in omega arith)
    go (waiting ph) e = absurd (let z : ◌≡◌ {A = ℕ} 0 1 = cc in omega arith)

-- After any calls, a client with no operation holds a seed, an attached id or none, and nothing else.
pub idle-rests : (calls : List Call) → All Good calls → (reached CodeClients.fresh calls).front.turn ≡ Idle
    → Rests (reached CodeClients.fresh calls)
idle-rests calls g e = rw r.client (idle-is r.machine r.fits r.bytes (rw r.client at e))
  where
    r : Reached (reached CodeClients.fresh calls)
    r = rw new-client (reaches Machine.fresh fresh-fits (fresh_holds Bytes) calls g)

-- The attached id, if there is one.
abbrev known_id : Client → Std.Option CodeIds.Id
known_id c = CodeClients.known (CodeClients.attached c)

same-rests : (s t : ℕ) (x y : Option Id) → s ≡ t
    → known_id (record_of s x idle) ≡ known_id (record_of t y idle)
    → record_of s x idle ≡ record_of t y idle
unfolding CodeClients.attached CodeClients.known
same-rests s t none none e a = ap (λ (n : ℕ). record_of n none idle) e
same-rests s t none (some y) e a = absurd (none-some _ a)
same-rests s t (some x) none e a = absurd (none-some _ (sym a))
same-rests s t (some x) (some y) e a =
    let same : id_from x ≡ id_from y = same_Some _ _ a in λ i. record {
      front = record { seed = e i; attached = true; id = same i; turn = Idle; prefix = no_id; bits = 0 };
      walk = no_walk;
    }

-- So two such clients with the same seed and attached id are equal.
pub idle-canonical : (xs ys : List Call) → All Good xs → All Good ys → (reached CodeClients.fresh xs).front.turn ≡ Idle
    → (reached CodeClients.fresh ys).front.turn ≡ Idle
    → (reached CodeClients.fresh xs).front.seed ≡ (reached CodeClients.fresh ys).front.seed
    → CodeClients.known (CodeClients.attached (reached CodeClients.fresh xs))
    ≡ CodeClients.known (CodeClients.attached (reached CodeClients.fresh ys))
    → reached CodeClients.fresh xs ≡ reached CodeClients.fresh ys
idle-canonical xs ys g h e f s a =
    p.client
    ∙ same-rests p.seed q.seed p.id q.id (sym (ap (λ (c : Client). c.front.seed) p.client) ∙ s ∙ ap (λ (c : Client). c.front.seed) q.client)
    (sym (ap known_id p.client) ∙ a ∙ ap known_id q.client)
    ∙ sym q.client
  where
    p : Rests (reached CodeClients.fresh xs)
    p = idle-rests xs g e

    q : Rests (reached CodeClients.fresh ys)
    q = idle-rests ys h f
