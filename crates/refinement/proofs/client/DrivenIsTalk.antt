-- The code's client, driven over any events, is document 01's: it gives the same answers, hands out the same bytes, and
-- stands where the conversation does.
use Prim.Native.Nat.{ℕ}
use mathlib.Core.Bool.{Bool, true, false, cond}
use mathlib.Core.List.{List, [], ◌∷◌}
use mathlib.Core.Option.{Option, none, some}
use mathlib.Core.Path.{◌≡◌, refl, sym, ◌∙◌, ap, ap₂, subst}
use native.Mathlib.Omega.{arith}
use Rattle.std.specs.Prelude as Std
use Rattle.paper.specs.Client as Paper
use Rattle.paper.specs.Client.{on_left}
use Rattle.paper.specs.Hearing.{Id}
use Rattle.paper.specs.Talk.{Ask, Outcome}
use Rattle.theory.specs.ClientMachine as Machine
use Rattle.theory.specs.ClientMachine.{Turn, idle, ready, waiting, turned}
use Rattle.theory.specs.ClientDriven as ClientDriven
use Rattle.theory.specs.ClientDriven.{Round, Sent, goes_on, on_asked, seed_at, id_at, Brought, Ready}
use Rattle.theory.specs.FlashOrder.{Past, Event, heard, failed, Stand, returned, refused, lost, pending}
use Rattle.theory.proofs.client.DrivenIsTalk as DrivenIsTalk
use Rattle.theory.proofs.client.ClientsFit.{turn-sound, Fits, request-fits, record-fits, link_failed-fits}
use Rattle.theory.proofs.client.MachineIsClient.{paper_of, left_of, request-sim, record-sim, link_failed-sim}
use Rattle.ids.specs.declared.Id as Ids
use Rattle.ids.specs.Ids.{no_id}
use Rattle.walk_table.specs.declared.Table.{Table}
use Rattle.walk_table.specs.Rows.{no_table}
use Rattle.client.specs.declared.Client.{Client}
use Rattle.client.specs.declared.Outcome.TheVariants as Code
use Rattle.client.specs.declared.Progress.{Progress}
use Rattle.client.specs.declared.Says.{Says}
use Rattle.client.specs.declared.Says.TheVariants.{Granted, Closing, Onward, Over, Refused}
use Rattle.client.specs.declared.Started.{Started}
use Rattle.client.specs.declared.Told.{Told}
use Rattle.client.specs.Numbers.{end_of, says_of}
use Rattle.client_request.specs.Request.{request}
use Rattle.client_record.specs.Record.{record', link_failed}
use Rattle.refinement.specs.Calls.{Reply, said_by, asked_of, started_by, asked_by, told_by, attached_to}
use Rattle.refinement.specs.CodeClient.{client_of}
use Rattle.refinement.specs.ClientDriven.{tells, asking, telling, driven, sends, answer_of, Asks, Leaves, StandsAs}
use Rattle.refinement.specs.ClientServed.{on_says, is_onward, opening, resting}
use Rattle.refinement.proofs.client.CallsAgree.{settled_by, handed_by, in_paper, in_code, request-call}
use Rattle.refinement.proofs.client.CallsAgree.{record-call, failed-call, attached-back, seed-of}

-- The code's client and document 01's are both those of one client of the machine.
pub record Alike (code : Client) (paper : Paper.Client) : Type 0 where
  pub machine : Machine.Client
  pub fits : Fits machine
  pub is_code : code ≡ client_of machine
  pub is-paper : paper ≡ paper_of machine

-- Both give the same answer, and leave clients that are alike.
pub record Answers (code : Reply × Client) (paper : Reply × Paper.Client) : Type 0 where
  pub reply : code.0 ≡ paper.0
  pub clients : Alike code.1 paper.1

pub from-machine : (r : Reply × Machine.Client) → Fits r.1 → (code : Reply × Client) (paper : Reply × Paper.Client)
    → code ≡ in_code r → paper ≡ in_paper r → Answers code paper
from-machine r f code paper c p = record {
  reply = ap (λ (x : Reply × Client). x.0) c ∙ sym (ap (λ (x : Reply × Paper.Client). x.0) p);
  clients = record {
    machine = r.1;
    fits = f;
    is_code = ap (λ (x : Reply × Client). x.1) c;
    is-paper = ap (λ (x : Reply × Paper.Client). x.1) p;
  };
}

pub record Same (code : Told) (paper : Paper.Told) : Type 0 where
  pub says : answer_of code ≡ paper.says
  pub rest : code.rest ≡ paper.rest
  pub clients : Alike code.client paper.client

pub started-same : (code : Started) (paper : Paper.Told) → Answers (started_by code) (said_by paper)
    → Same (opening code) paper
started-same code paper a = record {
  says = ap (λ (r : Reply). r.says) a.reply;
  rest = ap (λ (r : Reply). r.rest) a.reply;
  clients = a.clients;
}

told_same : (code : Told) (paper : Paper.Told) → Answers (told_by code) (said_by paper) → Same code paper
told_same code paper a = record {
  says = ap (λ (r : Reply). r.says) a.reply;
  rest = ap (λ (r : Reply). r.rest) a.reply;
  clients = a.clients;
}

-- The calls of a round.
module _ (code : Client) (paper : Paper.Client) (a : Alike code paper) where
  abbrev m : Machine.Client
  m = a.machine

  asked-same : (image buffer : List ℕ)
      → Answers (asked_by (request code image buffer)) (asked_of (Paper.request paper image buffer))
  asked-same image buffer =
      from-machine (handed_by (Machine.request m image buffer)) (request-fits m a.fits image buffer) _ _
      (ap (λ (c : Client). asked_by (request c image buffer)) a.is_code ∙ request-call m a.fits image buffer)
      (ap (λ (c : Paper.Client). asked_of (Paper.request c image buffer)) a.is-paper
      ∙ ap asked_of (request-sim m image buffer))

  tells-same : (e : Event) → Same (tells code e) (ClientDriven.tells paper e)
  unfolding tells ClientDriven.tells
  tells-same (heard image bytes) =
      told_same _ _
      (from-machine (settled_by (Machine.record' m image bytes)) (record-fits m a.fits image bytes) _ _
      (ap (λ (c : Client). told_by (record' c image bytes)) a.is_code ∙ record-call m a.fits image bytes)
      (ap (λ (c : Paper.Client). said_by (Paper.record' c image bytes)) a.is-paper
      ∙ ap said_by (record-sim m (turn-sound m.turn a.fits.turn) image bytes)))
  tells-same failed =
      told_same _ _
      (from-machine (settled_by (Machine.link_failed m)) (link_failed-fits m a.fits) _ _
      (ap (λ (c : Client). told_by (link_failed c)) a.is_code ∙ failed-call m)
      (ap (λ (c : Paper.Client). said_by (Paper.link_failed c)) a.is-paper ∙ ap said_by (link_failed-sim m)))

-- Whether the operation goes on, and what is handed out, depends only on the answer as document 01 has it.
onward-same : (s : Says) (p : Std.Option Progress) (x : Ids.Id) (t : Table) → is_onward s ≡ goes_on (says_of s p x t)
unfolding is_onward goes_on says_of end_of
onward-same (Granted n) p x t = refl
onward-same (Closing n) p x t = refl
onward-same Onward p x t = refl
onward-same (Over Code.Quiet) p x t = refl
onward-same (Over (Code.Heard h)) p x t = refl
onward-same (Over (Code.Attached any)) p x t = refl
onward-same (Over Code.Found) p x t = refl
onward-same (Over (Code.Knows info)) p x t = refl
onward-same (Over Code.Unaddressed) p x t = refl
onward-same (Refused r) p x t = refl

module _ {A B : Type 0} (R : A → B → Type 0) (g c : ℕ → A) (o : A) (g' c' : ℕ → B) (o' : B)
    (hg : (k : ℕ) → R (g k) (g' k)) (hc : (k : ℕ) → R (c k) (c' k)) (ho : R o o') where
  asked-alike : (s : Says) (p : Std.Option Progress) (x : Ids.Id) (t : Table)
      → R (on_says s g c o o) (on_asked (says_of s p x t) g' c' o')
  unfolding says_of end_of
  asked-alike (Granted n) p x t = hg n
  asked-alike (Closing n) p x t = hc n
  asked-alike Onward p x t = ho
  asked-alike (Over Code.Quiet) p x t = ho
  asked-alike (Over (Code.Heard h)) p x t = ho
  asked-alike (Over (Code.Attached any)) p x t = ho
  asked-alike (Over Code.Found) p x t = ho
  asked-alike (Over (Code.Knows info)) p x t = ho
  asked-alike (Over Code.Unaddressed) p x t = ho
  asked-alike (Refused r) p x t = ho

  asked-said : (s : Says) (ps : Paper.Says) → says_of s Std.None no_id no_table ≡ ps
      → R (on_says s g c o o) (on_asked ps g' c' o')
  asked-said s ps e = subst (λ (u : Paper.Says). R (on_says s g c o o) (on_asked u g' c' o')) e
      (asked-alike s Std.None no_id no_table)

module _ (buffer : List ℕ) where
  pub record Drives (rs : List Round) (code : Told) (paper : Paper.Told) : Type 0 where
    pub last : Same (driven buffer rs code) (ClientDriven.driven buffer rs paper)
    pub sent : sends buffer rs code ≡ ClientDriven.sends buffer rs paper

  -- A round, and those after it.
  module _ (r : Round) (rs : List Round) (code : Told) (paper : Paper.Told) (s : Same code paper)
      (more : (d : Told) (p : Paper.Told) → Same d p → Drives rs d p) where
    abbrev asks : Answers (asked_by (asking buffer r code)) (asked_of (ClientDriven.asking buffer r paper))
    asks = asked-same code.client paper.client s.clients r.lent buffer

    goes : is_onward code.says ≡ goes_on paper.says
    goes = onward-same code.says code.progress code.id code.found ∙ ap goes_on s.says

    said : says_of (asking buffer r code).answer.says Std.None no_id no_table ≡ (ClientDriven.asking buffer r paper).says
    said = ap (λ (x : Reply). x.says) asks.reply

    filled : (asking buffer r code).bytes ≡ (ClientDriven.asking buffer r paper).buffer
    filled = ap (λ (x : Reply). x.buffer) asks.reply

    closed : Same (opening (asking buffer r code).answer) (ClientDriven.closes (ClientDriven.asking buffer r paper))
    closed = record { says = said; rest = refl; clients = asks.clients }

    on : Drives rs (telling buffer r code) (ClientDriven.telling buffer r paper)
    on = more _ _ (tells-same _ _ asks.clients r.event)

    round-drives : Drives (r ∷ rs) code paper
    unfolding driven sends ClientDriven.driven ClientDriven.sends
    round-drives = record {
      last = rw (← goes) (last (is_onward code.says));
      sent = rw (← goes) (sent (is_onward code.says));
    }
      where
        last : (b : Bool)
            → Same
            (cond b (on_says (asking buffer r code).answer.says (λ k. driven buffer rs (telling buffer r code))
            (λ k. opening (asking buffer r code).answer) (opening (asking buffer r code).answer)
            (opening (asking buffer r code).answer)) code)
            (cond b (on_asked (ClientDriven.asking buffer r paper).says
            (λ k. ClientDriven.driven buffer rs (ClientDriven.telling buffer r paper))
            (λ k. ClientDriven.closes (ClientDriven.asking buffer r paper))
            (ClientDriven.closes (ClientDriven.asking buffer r paper))) paper)
        last true = asked-said Same _ _ _ _ _ _ (λ k. on.last) (λ k. closed) closed
            (asking buffer r code).answer.says (ClientDriven.asking buffer r paper).says said
        last false = s

        sent : (b : Bool)
            → ◌≡◌ {A = List Sent}
            (cond b (on_says (asking buffer r code).answer.says
            (λ k. ClientDriven.sending k (asking buffer r code).bytes (some r.event)
            ∷ sends buffer rs (telling buffer r code))
            (λ k. ClientDriven.sending k (asking buffer r code).bytes none ∷ []) [] []) [])
            (cond b (on_asked (ClientDriven.asking buffer r paper).says
            (λ k. ClientDriven.sending k (ClientDriven.asking buffer r paper).buffer (some r.event)
            ∷ ClientDriven.sends buffer rs (ClientDriven.telling buffer r paper))
            (λ k. ClientDriven.sending k (ClientDriven.asking buffer r paper).buffer none ∷ []) []) [])
        sent true =
            asked-said (λ (x y : List Sent). x ≡ y) _ _ _ _ _ _
            (λ k. ap₂ (λ (l : List ℕ) (m : List Sent). ClientDriven.sending k l (some r.event) ∷ m) filled
            on.sent)
            (λ k. ap (λ (l : List ℕ). ClientDriven.sending k l none ∷ []) filled)
            refl (asking buffer r code).answer.says (ClientDriven.asking buffer r paper).says said
        sent false = refl

  pub drives : (rs : List Round) (code : Told) (paper : Paper.Told) → Same code paper → Drives rs code paper
  unfolding driven sends ClientDriven.driven ClientDriven.sends
  drives [] code paper s = record { last = s; sent = refl }
  drives (r ∷ rs) code paper s = round-drives r rs code paper s (drives rs)

-- A client with no operation, and one with a request next.
idle-left : (c : Machine.Client) (seed : ℕ) (id : Option Id) → paper_of c ≡ ClientDriven.resting seed id
    → client_of c ≡ resting seed id
unfolding paper_of left_of
idle-left c seed id e = go c.turn e
  where
    runs : Paper.Client → ℕ
    runs p = on_left p.left 0 (λ q f. 1) (λ q f. 1)

    go : (t : Turn) → paper_of (turned c t) ≡ ClientDriven.resting seed id → client_of (turned c t) ≡ resting seed id
    go idle e = ap₂ resting (ap (λ (p : Paper.Client). p.seed) e) (ap (λ (p : Paper.Client). p.id) e)
    go (ready ph) e = absurd (let z : ◌≡◌ {A = ℕ} 1 0 = ap runs e in omega arith)
    go (waiting ph) e = absurd (let z : ◌≡◌ {A = ℕ} 1 0 = ap runs e in omega arith)

module _ (code : Client) (paper : Paper.Client) (a : Alike code paper) where
  alike-resting : (seed : ℕ) (id : Option Id) → paper ≡ ClientDriven.resting seed id → code ≡ resting seed id
  alike-resting seed id e = a.is_code ∙ idle-left a.machine seed id (sym a.is-paper ∙ e)

  alike-seed : code.front.seed ≡ paper.seed
  unfolding paper_of
  alike-seed = ap (λ (c : Client). c.front.seed) a.is_code ∙ seed-of a.machine
      ∙ sym (ap (λ (p : Paper.Client). p.seed) a.is-paper)

  alike-id : attached_to code ≡ paper.id
  unfolding paper_of
  alike-id = ap attached_to a.is_code ∙ attached-back a.machine a.fits
      ∙ sym (ap (λ (p : Paper.Client). p.id) a.is-paper)

  alike-asks : (n : Option ℕ) (seed : ℕ) (id : Option Id) (q : Ask) → Ready n seed id q paper → Asks n seed id q code
  alike-asks n seed id q r = record {
    seeded = alike-seed ∙ ap (λ (p : Paper.Client). p.seed) r.client;
    attached = alike-id ∙ ap (λ (p : Paper.Client). p.id) r.client;
    grants = λ image buffer o fits.
        let same : asked_of (Paper.request paper image buffer) ≡ _ =
        ap (λ (p : Paper.Client). asked_of (Paper.request p image buffer)) r.client
        ∙ ap asked_of (DrivenIsTalk.asked buffer n q r.then seed id image o fits) in
        let reply = (asked-same code paper a image buffer).reply ∙ ap (λ (x : Reply × Paper.Client). x.0) same in
        record { says = ap (λ (x : Reply). x.says) reply; after = ap (λ (x : Reply). x.buffer) reply };
  }

  alike-leaves : (n : Option ℕ) (seed : ℕ) (id : Option Id) (s : Stand Outcome) → ClientDriven.Leaves n seed id s paper
      → Leaves n seed id s code
  alike-leaves n seed id (returned o) h = alike-resting seed id h
  alike-leaves n seed id (refused k carries) h = alike-resting seed id h
  alike-leaves n seed id (lost q) h = alike-resting seed id h
  alike-leaves n seed id (pending q) h = alike-asks n seed id q h

pub same-stands : (n : Option ℕ) (seed : ℕ) (id : Option Id) (r : Past × Stand Outcome) (b : Brought) (code : Told)
    (paper : Paper.Told)
    → Same code paper → ClientDriven.StandsAs n seed id r b paper → StandsAs n seed id r b code
same-stands n seed id r b code paper s h = record {
  says = s.says ∙ h.says;
  rest = s.rest ∙ h.rest;
  client = alike-leaves code.client paper.client s.clients n (seed_at seed r) (id_at id r) r.1 h.client;
}
