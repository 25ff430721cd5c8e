-- The client after a record or a failed link that is refused, and where the rest begins, for every value of the client.
use Prim.Native.Nat.{ℕ}
use mathlib.Core.Bool.{Bool, true, false, cond}
use mathlib.Core.List.{List}
use mathlib.Core.Path.{◌≡◌, refl, sym, ◌∙◌, ap}
use lib.Dec.{ltb, eqb}
use lib.ListN.{length}
use Rattle.std.specs.Prelude as Std
use Rattle.std.specs.Prelude.{Option, Some, None, Result, Ok, Err}
use Rattle.paper.specs.Answers as Paper
use Rattle.paper.specs.Answers.{Answer, lost, answered, ok, device, answer, too_large, incompatible, spans_too_far}
use Rattle.paper.specs.Frame.{field, check}
use Rattle.ids.specs.declared.Id.{Id}
use Rattle.hearing.specs.declared.Heard.{Heard}
use Rattle.hearing.specs.declared.Heard.TheVariants.{Nothing, One, TooLong, Unaddressed, Garble}
use Rattle.image.specs.declared.Info.{Info}
use Rattle.image.specs.declared.BadInfo.{BadInfo}
use Rattle.image.specs.Images.{paper_info, shown_info, erase_after}
use Rattle.image.specs.Pieces.{is_last}
use Rattle.walk_table.specs.declared.Table.{Table}
use Rattle.walk.specs.declared.Walk.{Walk}
use Rattle.hearing.specs.Heard.{is_long}
use Rattle.walk_step.specs.declared.End.{End}
use Rattle.walk_step.specs.Steps.{Goes}
use Rattle.walk_step.specs.Steps as Steps
use Rattle.client.specs.declared.Client.{Client}
use Rattle.client.specs.declared.Job.{Job}
use Rattle.client.specs.declared.Job.TheVariants.{Informing, Erasing, Writing, Verifying, Resetting}
use Rattle.client.specs.declared.Phase.{Phase}
use Rattle.client.specs.declared.Phase.TheVariants.{Select, Demand, Leave}
use Rattle.client.specs.declared.Progress.{Progress}
use Rattle.client.specs.declared.Purpose.{Purpose}
use Rattle.client.specs.declared.Purpose.TheVariants.{Tell, Clear, Load}
use Rattle.client.specs.declared.Refusal.{Refusal}
use Rattle.client.specs.declared.Refusal.TheVariants.{Io, OtherImage, OutOfTurn}
use Rattle.client.specs.declared.Search.{Search}
use Rattle.client.specs.declared.Search.TheVariants.{Probing, Parting, Seeking, Backing, Walking}
use Rattle.client.specs.declared.Says.TheVariants.{Refused}
use Rattle.client.specs.declared.Told.{Told}
use Rattle.client.specs.declared.Turn.{Turn}
use Rattle.client.specs.declared.Turn.TheVariants.{Idle, Ready, Waiting}
use Rattle.client.specs.Clients.{other_image, idle, cleared, refuses, over, stops, onward}
use Rattle.client.specs.Numbers.{number_of}
use Rattle.client.proofs.Ways.{at-idle, at_ready, at-waiting}
use Rattle.client_job.specs.declared.Then.{Then}
use Rattle.client_job.specs.declared.Next.{Next}
use Rattle.client_job.specs.Job as CodeJob
use Rattle.client_job.specs.Job.{on_informed, on_erase, on_then, erases, judged, prepared, informed, writes, erased, wrote}
use Rattle.client_job.specs.Job.{repeated, verified, accepted, declined}
use Rattle.client_record.specs.Answer.{goes, on_answer, tells}
use Rattle.client_record.specs.Record.{attaches, met, backed, stop_of, walked, probed, hears, answered_to, record'}
use Rattle.client_record.specs.Record.{link_failed}
use Rattle.refinement.specs.Refusals.{keeps, parts, leaves}
use Rattle.lore.proofs.Choice.{either, clash}
use Rattle.refinement.proofs.refused.TurnCases.{each_turn, is_refused, unrefused, same-refusal}
use Rattle.refinement.proofs.refused.Starts.{leaves_kept, leaves-seed}

-- A refusal that ends the operation, comes after no deselect, and is not 1.
abbrev Plain : Refusal → Type 0
Plain r = (keeps r ≡ false) × ((parts r ≡ false) × (eqb (number_of r) 1 ≡ false))

-- What an answer leads to: no refusal, or a plain one.
abbrev Sober : Result Then Refusal → Type 0
Sober t = on_then t (λ job. Unit {0}) (λ o. Unit {0}) Plain

erases-sober : (why : Purpose) (info : Info) → Sober (erases why info)
unfolding erases keeps parts number_of
erases-sober why info = either Sober (spans_too_far (paper_info info)) (refl, (refl, refl)) tt

judged-sober : (n : ℕ) (info : Info) (image : List ℕ) → Sober (judged n info image)
unfolding judged keeps parts number_of
judged-sober n info image =
    either Sober (too_large (paper_info info) n) (refl, (refl, refl))
    (either Sober (incompatible (paper_info info) image) (refl, (refl, refl)) (erases-sober (Load n) info))

prepared-sober : (why : Purpose) (info : Info) (image : List ℕ) → Sober (prepared why info image)
unfolding prepared
prepared-sober Tell info image = tt
prepared-sober Clear info image = erases-sober Clear info
prepared-sober (Load n) info image = judged-sober n info image

informed-sober : (why : Purpose) (payload image : List ℕ) → Sober (informed why payload image)
unfolding informed keeps parts number_of
informed-sober why payload image = go (shown_info (Paper.informed payload))
  where
    go : (i : Result Info BadInfo) → Sober (on_informed i (λ info. prepared why info image) (Err Refusal.BadInfo))
    go (Ok info) = prepared-sober why info image
    go (Err e) = (refl, (refl, refl))

cleared-sober : (why : Purpose) (info : Info) → Sober (Ok (CodeJob.cleared why info))
unfolding CodeJob.cleared writes
cleared-sober Tell info = tt
cleared-sober Clear info = tt
cleared-sober (Load n) info = either (λ (t : Then). Sober (Ok t)) (eqb n 0) tt tt

each-erase : {A : Type 0} (P : A → Type 0) (e : Option ℕ) {f : ℕ → A} {a : A} → ((k : ℕ) → P (f k)) → P a
    → P (on_erase e f a)
each-erase P (Some k) h g = h k
each-erase P None h g = g

erased-sober : (why : Purpose) (info : Info) (address : ℕ) → Sober (erased why info address).then
unfolding erased
erased-sober why info address =
    each-erase (λ (x : Next). Sober x.then) (erase_after (paper_info info) address) (λ k. tt) (cleared-sober why info)

accepted-sober : (j : Job) (payload image : List ℕ) → Sober (accepted j payload image).then
unfolding accepted wrote verified keeps parts number_of
accepted-sober (Informing why) payload image = informed-sober why payload image
accepted-sober (Erasing why info address) payload image = erased-sober why info address
accepted-sober (Writing n info offset retries) payload image =
    either Sober (is_last (paper_info info) (length image) offset) tt tt
accepted-sober (Verifying n info) payload image =
    either Sober (ltb (length payload) 2) (refl, (refl, refl))
    (either Sober (eqb (check image) (field 0 2 payload)) tt (refl, (refl, refl)))
accepted-sober (Resetting reset) payload image = tt

declined-sober : (j : Job) (status : ℕ) → Sober (declined j status).then
unfolding declined repeated keeps parts number_of
declined-sober (Informing why) status = (refl, (refl, refl))
declined-sober (Erasing why info address) status = (refl, (refl, refl))
declined-sober (Writing n info offset retries) status =
    either (λ (x : Next). Sober x.then) (eqb status 3) (either Sober (ltb retries 16) tt (refl, (refl, refl)))
    (refl, (refl, refl))
declined-sober (Verifying n info) status = (refl, (refl, refl))
declined-sober (Resetting reset) status = (refl, (refl, refl))

not-io : {A : Type 0} (q : Refusal) → q ≡ Io → eqb (number_of q) 1 ≡ false → A
unfolding number_of
not-io q e m = clash (eqb (number_of q) 1) (ap (λ (x : Refusal). eqb (number_of x) 1) e) m

-- After a record of n bytes: the client if it was refused, where the rest begins, and the seed.
record Leaves (c : Client) (n : ℕ) (t : Told) : Type 0 where
  client : (r : Refusal) → t.says ≡ Refused r → t.client ≡ leaves r c
  lost : t.says ≡ Refused Io → t.rest ≡ n
  whole : (r : Refusal) → t.says ≡ Refused r → keeps r ≡ true → t.rest ≡ 0
  seed : t.client.front.seed ≡ c.front.seed

-- After a record in turn, with the right image lent: each refusal ends the operation.
record Tells (c : Client) (n : ℕ) (t : Told) : Type 0 where
  client : (r : Refusal) → t.says ≡ Refused r → t.client ≡ leaves r c
  lost : t.says ≡ Refused Io → t.rest ≡ n
  ends : (r : Refusal) → t.says ≡ Refused r → keeps r ≡ false
  seed : t.client.front.seed ≡ c.front.seed

module _ (c : Client) (n : ℕ) where
  told-leaves : (t : Told) → Tells c n t → Leaves c n t
  told-leaves t h = record {
    client = h.client;
    lost = h.lost;
    whole = λ r e k. clash (keeps r) k (h.ends r e);
    seed = h.seed;
  }

  refuses-leaves : (q : Refusal) → keeps q ≡ true → eqb (number_of q) 1 ≡ false → Leaves c n (refuses c q)
  refuses-leaves q h m = record {
    client = λ r e. rw (← same-refusal q r e) (sym (leaves_kept q c h));
    lost = λ e. not-io q (same-refusal q Io e) m;
    whole = λ r e k. refl;
    seed = refl;
  }

  unrefused-tells : (t : Told) → is_refused t.says ≡ false → t.client.front.seed ≡ c.front.seed → Tells c n t
  unrefused-tells t h e = record {
    client = λ r k. unrefused t.says r h k;
    lost = λ k. unrefused t.says Io h k;
    ends = λ r k. unrefused t.says r h k;
    seed = e;
  }

  ends : (at : ℕ) (d : Client) (q : Refusal) (x : Id) (t : Table) → idle d ≡ leaves q c → (q ≡ Io → at ≡ n)
      → keeps q ≡ false → Tells c n (over d (Refused q) x t at)
  unfolding over
  ends at d q x t ed ea k = record {
    client = λ r e. rw (← same-refusal q r e) ed;
    lost = λ e. ea (same-refusal q Io e);
    ends = λ r e. rw (← same-refusal q r e) k;
    seed = ap (λ (y : Client). y.front.seed) ed ∙ leaves-seed q c;
  }

  lost-tells : Tells c n (stops c (Refused Io) n)
  unfolding leaves keeps parts number_of
  lost-tells = ends n c Io _ _ refl (λ e. refl) refl

  module _ (at : ℕ) where
    ends-tells : (b : Bool) (q : Refusal) (x : Id) (t : Table) → keeps q ≡ false → parts q ≡ b
        → eqb (number_of q) 1 ≡ false → Tells c n (over (cond b (cleared c) c) (Refused q) x t at)
    unfolding leaves
    ends-tells b q x t k e m = ends at (cond b (cleared c) c) q x t (rw (k, e)) (λ h. not-io q h m) k

    met-tells : (given : Bool) (h : Heard) (x : Id) → Tells c n (met c given h x at)
    unfolding met attaches over onward idle keeps parts number_of
    met-tells true Nothing x = ends-tells false Refusal.NoSuchUid _ _ refl refl refl
    met-tells false Nothing x = ends-tells false Refusal.NoDevice _ _ refl refl refl
    met-tells given One x = unrefused-tells _ refl refl
    met-tells given TooLong x = ends-tells false Refusal.LongId _ _ refl refl refl
    met-tells true Unaddressed x = ends-tells false Refusal.NotAddressable _ _ refl refl refl
    met-tells false Unaddressed x = unrefused-tells _ refl refl
    met-tells given Garble x = unrefused-tells _ refl refl

    backed-tells : (given : Bool) → Tells c n (backed c given at)
    unfolding backed keeps parts number_of
    backed-tells true = ends-tells true Refusal.AmbiguousUid _ _ refl refl refl
    backed-tells false = ends-tells true Refusal.SeveralDevices _ _ refl refl refl

    stopped-tells : (end : End) → Tells c n (stops c (stop_of end) at)
    unfolding stop_of over idle keeps parts number_of
    stopped-tells End.DuplicateUid = ends-tells false Refusal.DuplicateUid _ _ refl refl refl
    stopped-tells End.LongId = ends-tells false Refusal.LongId _ _ refl refl refl
    stopped-tells End.TableFull = ends-tells false Refusal.TableFull _ _ refl refl refl
    stopped-tells End.Unaddressed = unrefused-tells _ refl refl

    walked-tells : (g : Goes) (w : Walk) → Tells c n (walked c g w at)
    unfolding walked over onward idle cleared
    walked-tells (Steps.On p) w = unrefused-tells _ refl refl
    walked-tells Steps.Done w = unrefused-tells _ refl refl
    walked-tells (Steps.Stopped end) w = stopped-tells end

    probed-tells : (h : Heard) (x : Id) → Tells c n (probed c h x at)
    unfolding probed over idle keeps parts number_of
    probed-tells h x = either (Tells c n) (is_long h) (ends-tells false Refusal.LongId _ _ refl refl refl)
        (unrefused-tells _ refl refl)

    hears-tells : (s : Search) (h : Heard) (x : Id) → Tells c n (hears c s h x at)
    unfolding hears over idle cleared
    hears-tells Probing h x = probed-tells h x
    hears-tells Parting h x = unrefused-tells _ refl refl
    hears-tells (Seeking given) h x = met-tells given h x
    hears-tells (Backing given) h x = backed-tells given
    hears-tells (Walking q) h x = walked-tells _ _

    goes-tells : (progress : Std.Option Progress) (t : Result Then Refusal) → Sober t
        → Tells c n (goes c (record { progress = progress; then = t }) at)
    unfolding goes over onward idle
    goes-tells progress (Ok (Then.On job)) h = unrefused-tells _ refl refl
    goes-tells progress (Ok (Then.Over o)) h = unrefused-tells _ refl refl
    goes-tells progress (Err r) h = ends-tells false r _ _ h.0 h.1.0 h.1.1

  tells-tells : (j : Job) (image bytes : List ℕ) → length bytes ≡ n → Tells c n (tells c j image bytes)
  unfolding tells
  tells-tells j image bytes en = go (answer bytes)
    where
      go : (a : Answer)
          → Tells c n (on_answer a (stops c (Refused Io) (length bytes))
          (λ payload end. goes c (accepted j payload image) end) (λ status end. goes c (declined j status) end))
      go lost = rw en lost-tells
      go (answered (ok payload) end) = goes-tells end _ _ (accepted-sober j payload image)
      go (answered (device status) end) = goes-tells end _ _ (declined-sober j status)

module _ (c : Client) (image bytes : List ℕ) where
  answered-tells : (p : Phase) → Tells c (length bytes) (answered_to c p image bytes)
  unfolding answered_to over idle
  answered-tells (Select s) = hears-tells c (length bytes) (length bytes) s _ _
  answered-tells (Demand j) = tells-tells c (length bytes) j image bytes refl
  answered-tells (Leave reset) = unrefused-tells c (length bytes) _ refl refl

  record-leaves : Leaves c (length bytes) (record' c image bytes)
  unfolding record' keeps number_of
  record-leaves =
      each_turn (λ (t : Turn) (o : Told). Leaves c (length bytes) o) c.front.turn
      (refuses-leaves c (length bytes) OutOfTurn refl refl)
      (λ p. refuses-leaves c (length bytes) OutOfTurn refl refl)
      (λ p.
      either (Leaves c (length bytes)) (other_image p (length image))
      (refuses-leaves c (length bytes) OtherImage refl refl)
      (told-leaves c (length bytes) _ (answered-tells p)))

  pub told-refused : (r : Refusal) → (record' c image bytes).says ≡ Refused r
      → (record' c image bytes).client ≡ leaves r c
  told-refused = record-leaves.client

  pub told-lost : (record' c image bytes).says ≡ Refused Io → (record' c image bytes).rest ≡ length bytes
  told-lost = record-leaves.lost

  pub told-kept : (r : Refusal) → (record' c image bytes).says ≡ Refused r → keeps r ≡ true
      → (record' c image bytes).rest ≡ 0
  told-kept = record-leaves.whole

  pub told-seed : (record' c image bytes).client.front.seed ≡ c.front.seed
  told-seed = record-leaves.seed

  -- "Order: 21, 20, .. then the record."
  pub told-idle : c.front.turn ≡ Idle → record' c image bytes ≡ refuses c OutOfTurn
  unfolding record'
  told-idle e = sym (at-idle c.front.turn _ _ _ e)

  pub told-ready : (p : Phase) → c.front.turn ≡ Ready p → record' c image bytes ≡ refuses c OutOfTurn
  unfolding record'
  told-ready p e = sym (at_ready c.front.turn _ _ _ p e)

  pub told-waiting : (p : Phase) → c.front.turn ≡ Waiting p
      → record' c image bytes ≡ cond (other_image p (length image)) (refuses c OtherImage) (answered_to c p image bytes)
  unfolding record'
  told-waiting p e = sym (at-waiting c.front.turn _ _ _ p e)

  -- A record in turn, with the right image lent, is never refused with 20, 21 or another refusal that changes no state.
  pub told-due : (p : Phase) → c.front.turn ≡ Waiting p → other_image p (length image) ≡ false → (r : Refusal)
      → (record' c image bytes).says ≡ Refused r → keeps r ≡ false
  told-due p e h r f = (answered-tells p).ends r (ap (λ (t : Told). t.says) (sym reads) ∙ f)
    where
      reads : record' c image bytes ≡ answered_to c p image bytes
      reads = told-waiting p e ∙ ap (λ (b : Bool). cond b (refuses c OtherImage) (answered_to c p image bytes)) h

-- A failed link.
module _ (c : Client) where
  pub failed-idle : c.front.turn ≡ Idle → link_failed c ≡ refuses c OutOfTurn
  unfolding link_failed
  failed-idle e = sym (at-idle c.front.turn _ _ _ e)

  pub failed-ready : (p : Phase) → c.front.turn ≡ Ready p → link_failed c ≡ refuses c OutOfTurn
  unfolding link_failed
  failed-ready p e = sym (at_ready c.front.turn _ _ _ p e)

  pub failed-waiting : (p : Phase) → c.front.turn ≡ Waiting p → link_failed c ≡ stops c (Refused Io) 0
  unfolding link_failed
  failed-waiting p e = sym (at-waiting c.front.turn _ _ _ p e)

  failed-leaves : Leaves c 0 (link_failed c)
  unfolding link_failed keeps number_of
  failed-leaves =
      each_turn (λ (t : Turn) (o : Told). Leaves c 0 o) c.front.turn
      (refuses-leaves c 0 OutOfTurn refl refl)
      (λ p. refuses-leaves c 0 OutOfTurn refl refl)
      (λ p. told-leaves c 0 _ (lost-tells c 0))

  pub failed-refused : (r : Refusal) → (link_failed c).says ≡ Refused r → (link_failed c).client ≡ leaves r c
  failed-refused = failed-leaves.client

  pub failed-seed : (link_failed c).client.front.seed ≡ c.front.seed
  failed-seed = failed-leaves.seed
