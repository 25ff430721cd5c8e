-- The order of an operation's requests over any replies: which request is allowed after those asked and answered so
-- far, and at most how many there are.
use Rattle.std.specs.Prelude.{ℕ, ◌+◌, ◌*◌, ◌≤◌, ◌<◌, Bool, true, false, ◌&&◌, cond, List, [], ◌∷◌, ◌++◌, map, ◌≡◌, eqb, length, take}
use Rattle.std.proofs.Math.Option.{Option, none, some}
use Rattle.paper.specs.Frame.{field, check, Info, command-Info, command-Erase, command-Write}
use Rattle.paper.specs.Hearing.{on_some}
use Rattle.paper.specs.Answers.{Reply, ok, device, informed, steps, too_large, incompatible, spans_too_far, erase_addresses}
use Rattle.paper.specs.Answers.{chunk, padded}
use Rattle.paper.specs.Talk.{Payload, these, piece, Demand, Ask, select, demand, leave, Answered, AnswerTo, Talk}
use Rattle.paper.specs.Talk.{return, stop, report, ask, Outcome, knows}
use Rattle.paper.specs.Flash.{info_request, erase_request, write_request, verify_request}
use Rattle.paper.specs.Client.{reading}

-- A request and its answer.
pub record Exchange : Type 0 where
  pub asked : Ask
  pub answer : AnswerTo asked

abbrev pub met : Demand → Reply → List ℕ → Exchange
met d r image = record { asked = demand d; answer = record { reply = r; image = image } }

-- The requests asked and answered so far, the latest first.
abbrev pub Past : Type 0
Past = List Exchange

-- A record with the image lent with it, or a failed link.
pub data Event : Type 0 where
  heard : List ℕ → List ℕ → Event
  failed : Event

-- How a conversation stands after some events: it has returned; it was refused; its latest request got no answer; or a
-- request is next.
pub data Stand (A : Type 0) : Type 0 where
  returned : A → Stand A
  refused : ℕ → List ℕ → Stand A
  lost : Ask → Stand A
  pending : Ask → Stand A

-- A failed link gives no answer, except to a request whose answer is not awaited.
unfoldable pub unanswered : (q : Ask) → Option (AnswerTo q)
unanswered (select p) = none
unanswered (demand d) = none
unanswered (leave d) = some tt

-- The answer that an event gives to a request, if any.
unfoldable pub read_event : (q : Ask) → Event → Option (AnswerTo q)
read_event q (heard image bytes) = reading q image bytes
read_event q failed = unanswered q

-- A conversation over some events, with the exchanges before it: all exchanges then, and how it stands.
unfoldable pub play : {A : Type 0} → Talk A → List Event → Past → Past × Stand A
play (return a) es past = (past, returned a)
play (stop c carries) es past = (past, refused c carries)
play (report a b m) es past = play m es past
play (ask q f) [] past = (past, pending q)
play (ask q f) (e ∷ es) past =
    on_some (read_event q e) (past, lost q) (λ a. play (f a) es (record { asked = q; answer = a } ∷ past))

-- The requests of a past; the request that got no answer or is next; all of these. The latest is first.
abbrev pub asks : Past → List Ask
asks past = map (λ x. x.asked) past

abbrev pub out : {A : Type 0} → Stand A → List Ask
out (returned a) = []
out (refused c carries) = []
out (lost q) = q ∷ []
out (pending q) = q ∷ []

abbrev pub everything : {A : Type 0} → Past × Stand A → List Ask
everything r = out r.1 ++ asks r.0

-- The device information that a reply gives, with the image lent with it; that of an exchange; the first of a past.
unfoldable pub told_by : Reply → List ℕ → Option (Info × List ℕ)
told_by (ok payload) image = on_some (informed payload) none (λ info. some (info, image))
told_by (device status) image = none

unfoldable pub told_in : (q : Ask) → AnswerTo q → Option (Info × List ℕ)
told_in (select p) h = none
told_in (demand d) a = cond (eqb d.command command-Info) (told_by a.reply a.image) none
told_in (leave d) u = none

unfoldable pub told : Past → Option (Info × List ℕ)
told [] = none
told (x ∷ past) = on_some (told past) (told_in x.asked x.answer) some

unfoldable pub is_ok : Reply → Bool
is_ok (ok payload) = true
is_ok (device status) = false

-- The number of bytes of a payload.
unfoldable pub carried : Payload → ℕ
carried (these bytes) = length bytes
carried (piece offset k) = k

-- The total length of the Writes answered Ok.
unfoldable pub wrote_in : (q : Ask) → AnswerTo q → ℕ
wrote_in (select p) h = 0
wrote_in (demand d) a = cond (eqb d.command command-Write && is_ok a.reply) (carried d.payload) 0
wrote_in (leave d) u = 0

unfoldable pub written : Past → ℕ
written [] = 0
written (x ∷ past) = wrote_in x.asked x.answer + written past

-- The addresses of the Erases answered Ok, the first one first.
unfoldable pub erased_in : (q : Ask) → AnswerTo q → List ℕ
erased_in (select p) h = []
erased_in (demand d) a = cond (eqb d.command command-Erase && is_ok a.reply) (d.address ∷ []) []
erased_in (leave d) u = []

unfoldable pub erased : Past → List ℕ
erased [] = []
erased (x ∷ past) = erased past ++ erased_in x.asked x.answer

-- The addresses of all Erases, answered or not, the first one first.
unfoldable pub erase_in : Ask → List ℕ
erase_in (select p) = []
erase_in (demand d) = cond (eqb d.command command-Erase) (d.address ∷ []) []
erase_in (leave d) = []

unfoldable pub erases : List Ask → List ℕ
erases [] = []
erases (q ∷ qs) = erases qs ++ erase_in q

-- How many Writes have the address a.
unfoldable pub write_in : ℕ → Ask → ℕ
write_in a (select p) = 0
write_in a (demand d) = cond (eqb d.command command-Write && eqb d.address a) 1 0
write_in a (leave d) = 0

unfoldable pub writes_at : ℕ → List Ask → ℕ
writes_at a [] = 0
writes_at a (q ∷ qs) = write_in a q + writes_at a qs

-- The addresses to erase, once the device information is known; none before that.
unfoldable pub planned : Past → List ℕ
planned past = on_some (told past) [] (λ i. erase_addresses i.0)

-- `all` begins with xs.
abbrev pub FrontOf : List ℕ → List ℕ → Type 0
FrontOf all xs = xs ≡ take (length xs) all

-- This device information is known, and a flash of n bytes with it gets none of the refusals 3, 6 and 19.
pub record Passed (n : ℕ) (known : Option (Info × List ℕ)) (info : Info) : Type 0 where
  pub image : List ℕ
  pub tells : known ≡ some (info, image)
  pub fits : too_large info n ≡ false
  pub suits : incompatible info image ≡ false
  pub spans : spans_too_far info ≡ false

pub record MayErase (n : ℕ) (past : Past) : Type 0 where
  pub info : Info
  pub passed : Passed n (told past) info

-- The same, and every Erase, including the last, has been answered Ok.
pub record MayWrite (n : ℕ) (past : Past) : Type 0 where
  pub info : Info
  pub passed : Passed n (told past) info
  pub cleared : erased past ≡ erase_addresses info

-- What a flash of an image of n bytes may demand: the Info, as its first request; an Erase; the Write at the offset
-- reached, while bytes are left; the Verify, after the last Write.
pub data InOrder (n : ℕ) (past : Past) (d : Demand) : Type 0 where
  to_inform : past ≡ [] → d ≡ info_request → InOrder n past d
  to_erase : (may : MayErase n past) → d ≡ erase_request may.info d.address → InOrder n past d
  to_write : (may : MayWrite n past) → written past < padded n → d ≡ write_request may.info n (written past)
      → InOrder n past d
  to_verify : MayWrite n past → written past ≡ padded n → d ≡ verify_request n → InOrder n past d

abbrev pub Ordered : ℕ → Past → Ask → Type 0
Ordered n past (select p) = ⊥
Ordered n past (demand d) = InOrder n past d
Ordered n past (leave d) = ⊥

-- The Erases are the first of those planned: in the order of the addresses, with none left out.
abbrev pub Fronts : Past → List Ask → Type 0
Fronts past qs = FrontOf (planned past) (erases qs)

abbrev pub Front : Past → Ask → Type 0
Front past q = Fronts past (q ∷ asks past)

-- No address has more than 17 Writes.
abbrev pub Few : Past → Ask → Type 0
Few past q = (a : ℕ) → writes_at a (q ∷ asks past) ≤ 17

pub record Allowed (n : ℕ) (past : Past) (q : Ask) : Type 0 where
  pub ordered : Ordered n past q
  pub front : Front past q
  pub few : Few past q

-- Each request of a past satisfied R when it was asked.
abbrev pub Kept : (Past → Ask → Type 0) → Past → Type 0
Kept R [] = Unit {0}
Kept R (x ∷ past) = R past x.asked × Kept R past

-- A request that got no answer, or that is next, satisfies R. A value returned satisfies Q.
abbrev pub Stands : {A : Type 0} → (Past → Ask → Type 0) → (Past → A → Type 0) → Past → Stand A → Type 0
Stands R Q past (returned a) = Q past a
Stands R Q past (refused c carries) = Unit {0}
Stands R Q past (lost q) = R past q
Stands R Q past (pending q) = R past q

-- The answer to a Verify is Ok and has the check of the image lent with it.
pub record Checked (a : Answered) : Type 0 where
  pub payload : List ℕ
  pub accepted : a.reply ≡ ok payload
  pub long : 2 ≤ length payload
  pub right : field 0 2 payload ≡ check a.image

abbrev pub VerifiedIn : ℕ → (q : Ask) → AnswerTo q → Type 0
VerifiedIn n (select p) h = ⊥
VerifiedIn n (demand d) a = (d ≡ verify_request n) × Checked a
VerifiedIn n (leave d) u = ⊥

-- The latest request was the Verify, and its answer has the check.
abbrev pub Verified : ℕ → Past → Type 0
Verified n [] = ⊥
Verified n (x ∷ past) = VerifiedIn n x.asked x.answer

-- A flash has succeeded: all was erased, the padded length was written, and the Verify, its last request, was answered
-- with the check.
pub record Flashed (n : ℕ) (past : Past) (o : Outcome) : Type 0 where
  pub may : MayWrite n past
  pub all : written past ≡ padded n
  pub verified : Verified n past
  pub result : o ≡ knows may.info

-- The conversation has ended: no request is next.
abbrev pub Ended : {A : Type 0} → Stand A → Type 0
Ended (returned a) = Unit {0}
Ended (refused c carries) = Unit {0}
Ended (lost q) = Unit {0}
Ended (pending q) = ⊥

-- After these events at most k requests have been asked, counting the one that is next. After k events the conversation
-- has ended.
pub record Bounded {A : Type 0} (k : ℕ) (es : List Event) (r : Past × Stand A) : Type 0 where
  pub few : length (everything r) ≤ k
  pub ends : k ≤ length es → Ended r.1

-- A bound on all requests: 1 until the device information is known, then 1 + b of that information.
unfoldable pub most : (Info → ℕ) → Option (Info × List ℕ) → ℕ
most b i = on_some i 1 (λ i. 1 + b i.0)

unfoldable pub erases_most : Info → ℕ
erases_most info = steps info.erase_size info.capacity

unfoldable pub flash_most : ℕ → Info → ℕ
flash_most n info = erases_most info + (17 * steps (chunk info.max_payload) (padded n) + 1)
