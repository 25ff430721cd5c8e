-- Document 01's client, driven over any events, stands where its conversation does: the same answer, rest and client.
use Prim.Native.Nat.{ℕ, ◌≤◌}
use mathlib.Core.Bool.{true, false}
use mathlib.Core.List.{List, [], ◌∷◌, ◌++◌}
use mathlib.Core.Option.{Option, none, some}
use mathlib.Core.Path.{◌≡◌, refl, sym, ap}
use native.Mathlib.Omega.{arith}
use lib.ListN.{length, drop}
use lib.Seq.{take-append_seam}
use borrow.Author.Tests.{le-ltb, eq-eqb}
use Rattle.paper.specs.Client.{Left, idle, ready, waiting, Client, closing, over, Told, id_after, proceed, start_with}
use Rattle.paper.specs.Client.{other_length, bytes_of, seed_after, cleared, fails, grant, handed_out, request, record'}
use Rattle.paper.specs.Client.{link_failed}
use Rattle.paper.specs.Client as Paper
use Rattle.paper.specs.Hearing.{Id, on_some}
use Rattle.paper.specs.Talk.{Demand, Ask, select, demand, leave, AnswerTo, Talk, return, stop, report, ask, Outcome}
use Rattle.paper.specs.Count.{All}
use Rattle.theory.specs.FlashOrder.{Past, Event, heard, failed, lost, unanswered, read_event, play}
use Rattle.theory.specs.ClientDriven.{Round, events, Sent, goes_on, tells, driven, sending, sends, OfLength}
use Rattle.theory.specs.ClientDriven.{LendsIn, Lends, size_of, seed_over, id_over, rest_after, brought, nothing_yet}
use Rattle.theory.specs.ClientDriven.{success, resting, StandsAs}
use Rattle.theory.proofs.talk.RequestSizes.{asked-size, Returns, Modest, room}

-- An image of the length that the flash was started with passes the test on its length.
pub lent-passes : (n : Option ℕ) (image : List ℕ) → OfLength n image → other_length n image ≡ false
lent-passes none image e = refl
lent-passes (some n) image e = rw (eq-eqb n (length image) (sym e))

pub any_lent : (rs : List Round) → All (Lends none) rs
any_lent [] = tt
any_lent (r ∷ rs) = ((tt, go r.event), any_lent rs)
  where
    go : (e : Event) → LendsIn none e
    go (heard image bytes) = tt
    go failed = tt

-- The answer to the request is awaited.
abbrev pub Awaits : Ask → Type 0
Awaits (select p) = Unit {0}
Awaits (demand d) = Unit {0}
Awaits (leave d) = ⊥

module _ (buffer : List ℕ) (n : Option ℕ) where
  -- A client with this seed, this attached id or none, and this left to do.
  abbrev pub client : ℕ → Option Id → Left → Client
  client seed id l = record { seed = seed; id = id; image = n; left = l }

  module _ (q : Ask) (f : AnswerTo q → Talk Outcome) (seed : ℕ) (id : Option Id) (image : List ℕ)
      (lent : OfLength n image) (fits : size_of q ≤ length buffer) where
    abbrev bytes : List ℕ
    bytes = bytes_of q (seed_after q seed) image

    -- Asking for a request: it is handed out.
    pub asked : request (client seed id (ready q f)) image buffer
        ≡ record {
          says = Paper.handing q (length bytes);
          client = handed_out (client seed id (ready q f)) (seed_after q seed) q f;
          buffer = bytes ++ drop (length bytes) buffer;
        }
    unfolding request grant
    asked = rw (
      lent-passes n image lent,
      le-ltb (length buffer) (length bytes) (omega (arith, asked-size q (seed_after q seed) image)),
    )

  -- The answer to the event after a request.
  unfoldable pub goes : (q : Ask) (f : AnswerTo q → Talk Outcome) → ℕ → Option Id → Event → Option (AnswerTo q) → Told
  goes q f seed id e o =
      on_some o (fails (client seed id (waiting q f)) (rest_after q e))
      (λ a. proceed (client seed (cleared q id) (waiting q f)) none (f a) (rest_after q e))

  told : (q : Ask) (f : AnswerTo q → Talk Outcome) (seed : ℕ) (id : Option Id) → Awaits q → (e : Event) → LendsIn n e
      → tells (client seed id (waiting q f)) e ≡ goes q f seed id e (read_event q e)
  unfolding tells record' link_failed read_event unanswered goes rest_after
  told (select p) f seed id w (heard image bytes) o = rw (lent-passes n image o)
  told (select p) f seed id w failed o = refl
  told (demand d) f seed id w (heard image bytes) o = rw (lent-passes n image o)
  told (demand d) f seed id w failed o = refl
  told (leave d) f seed id w e o = absurd w

  stays : (rs : List Round) (t : Told) → goes_on t.says ≡ false → driven buffer rs t ≡ t
  unfolding driven
  stays [] t e = refl
  stays (r ∷ rs) t e = rw e

  pub quiet : (rs : List Round) (t : Told) → goes_on t.says ≡ false → sends buffer rs t ≡ []
  unfolding sends
  quiet [] t e = refl
  quiet (r ∷ rs) t e = rw e

  -- The answer that leaves a request next, and that request as it is handed out.
  abbrev pub next : (q : Ask) → (AnswerTo q → Talk Outcome) → ℕ → Option Id → Option (ℕ × ℕ) → ℕ → Told
  next q f seed id p at = record { says = Paper.onward p; client = client seed id (ready q f); rest = at }

  abbrev pub handed : Ask → ℕ → List ℕ → Option Event → Sent
  handed q seed image e = record { bytes = bytes_of q (seed_after q seed) image; then = e }

  front : (xs : List ℕ) (e : Option Event)
      → sending (length xs) (xs ++ drop (length xs) buffer) e ≡ record { bytes = xs; then = e }
  front xs e = ap (λ (l : List ℕ). record { bytes = l; then = e }) (take-append_seam xs (drop (length xs) buffer))

  left-client : (d : Demand) (f : AnswerTo (leave d) → Talk Outcome) (o : Outcome) → f tt ≡ return o
      → (seed : ℕ) (id : Option Id)
      → handed_out (client seed id (ready (leave d) f)) seed (leave d) f ≡ resting seed (id_after o id)
  unfolding handed_out proceed
  left-client d f o e seed id = ap
      (λ (m : Talk Outcome). (proceed (client seed id (ready (leave d) f)) none m 0).client) e

  read-leave : (d : Demand) (e : Event) → read_event (leave d) e ≡ some tt
  unfolding read_event unanswered
  read-leave d (heard image bytes) = refl
  read-leave d failed = refl

  rest-leave : (d : Demand) (e : Event) → rest_after (leave d) e ≡ 0
  unfolding rest_after
  rest-leave d (heard image bytes) = refl
  rest-leave d failed = refl

  module _ (seed : ℕ) (id : Option Id) (r : Round) (rs : List Round) (lends : Lends n r) (p : Option (ℕ × ℕ))
      (at : ℕ) where
    driven-awaits : (q : Ask) (f : AnswerTo q → Talk Outcome) → Awaits q → size_of q ≤ length buffer
        → driven buffer (r ∷ rs) (next q f seed id p at)
        ≡ driven buffer rs (goes q f (seed_after q seed) id r.event (read_event q r.event))
    unfolding driven goes_on handed_out
    driven-awaits (select s) f w fits =
        rw (
          asked (select s) f seed id r.lent lends.0 fits,
          told (select s) f (seed_after (select s) seed) id w r.event lends.1,
        )
    driven-awaits (demand d) f w fits =
        rw (
          asked (demand d) f seed id r.lent lends.0 fits,
          told (demand d) f (seed_after (demand d) seed) id w r.event lends.1,
        )
    driven-awaits (leave d) f w fits = absurd w

    pub sends-awaits : (q : Ask) (f : AnswerTo q → Talk Outcome) → Awaits q → size_of q ≤ length buffer
        → sends buffer (r ∷ rs) (next q f seed id p at)
        ≡ handed q seed r.lent (some r.event)
        ∷ sends buffer rs (goes q f (seed_after q seed) id r.event (read_event q r.event))
    unfolding sends goes_on handed_out
    sends-awaits (select s) f w fits =
        rw (
          asked (select s) f seed id r.lent lends.0 fits,
          told (select s) f (seed_after (select s) seed) id w r.event lends.1,
          front (bytes_of (select s) (seed_after (select s) seed) r.lent) (some r.event),
        )
    sends-awaits (demand d) f w fits =
        rw (
          asked (demand d) f seed id r.lent lends.0 fits,
          told (demand d) f (seed_after (demand d) seed) id w r.event lends.1,
          front (bytes_of (demand d) (seed_after (demand d) seed) r.lent) (some r.event),
        )
    sends-awaits (leave d) f w fits = absurd w

    -- A request whose answer is not awaited ends its operation.
    driven-leaves : (d : Demand) (f : AnswerTo (leave d) → Talk Outcome) (o : Outcome) → f tt ≡ return o
        → size_of (leave d) ≤ length buffer
        → driven buffer (r ∷ rs) (next (leave d) f seed id p at)
        ≡ record { says = closing (size_of (leave d)); client = resting seed (id_after o id); rest = 0 }
    unfolding driven goes_on
    driven-leaves d f o e fits =
        rw (asked (leave d) f seed id r.lent lends.0 fits)
        (λ i. record {
          says = closing (asked-size (leave d) seed r.lent i);
          client = left-client d f o e seed id i;
          rest = 0;
        })

    sends-leaves : (d : Demand) (f : AnswerTo (leave d) → Talk Outcome) → size_of (leave d) ≤ length buffer
        → sends buffer (r ∷ rs) (next (leave d) f seed id p at) ≡ handed (leave d) seed r.lent none ∷ []
    unfolding sends goes_on
    sends-leaves d f fits = rw (
      asked (leave d) f seed id r.lent lends.0 fits,
      front (bytes_of (leave d) seed r.lent) none,
    )

  module _ (seed : ℕ) (id : Option Id) where
    -- `StandsAs` for the conversation m over these rounds, after the exchanges of a past.
    abbrev Stood : Talk Outcome → List Round → Past → Left → Option (ℕ × ℕ) → ℕ → Type 0
    Stood m rs past l p at =
        StandsAs n seed id (play m (events rs) past) (brought m (events rs) (record { progress = p; rest = at }))
        (driven buffer rs (proceed (client (seed_over seed past) (id_over id past) l) p m at))

    -- The reply to the latest request, if there is one, was awaited: success is then the answer to a record.
    abbrev Answered : Past → Type 0
    Answered past = (p : Option (ℕ × ℕ)) (o : Outcome) → success past p o ≡ over p o

    answered-now : (q : Ask) → Awaits q → (a : AnswerTo q) (past : Past)
        → Answered (record { asked = q; answer = a } ∷ past)
    unfolding success
    answered-now (select s) w a past p o = refl
    answered-now (demand d) w a past p o = refl
    answered-now (leave d) w a past p o = absurd w

    awaits-stood : (q : Ask) (f : AnswerTo q → Talk Outcome) → Awaits q → size_of q ≤ length buffer
        → (r : Round) (rs : List Round) → Lends n r → (past : Past)
        → ((a : AnswerTo q) (l : Left) (at : ℕ) → Stood (f a) rs (record { asked = q; answer = a } ∷ past) l none at)
        → (l : Left) (p : Option (ℕ × ℕ)) (at : ℕ) → Stood (ask q f) (r ∷ rs) past l p at
    unfolding play brought proceed goes goes_on seed_over id_over
    awaits-stood q f w fits r rs lends past ih l p at =
        rw (driven-awaits (seed_over seed past) (id_over id past) r rs lends p at q f w fits)
        (go (read_event q r.event))
      where
        rest : ℕ
        rest = rest_after q r.event

        go : (o : Option (AnswerTo q))
            → StandsAs n seed id (on_some o (past, lost q)
            (λ a. play (f a) (events rs) (record { asked = q; answer = a } ∷ past)))
            (on_some o (record { progress = none; rest = rest })
            (λ a. brought (f a) (events rs) (record { progress = none; rest = rest })))
            (driven buffer rs (goes q f (seed_after q (seed_over seed past)) (id_over id past) r.event o))
        go none = rw (stays rs (fails (client (seed_after q (seed_over seed past)) (id_over id past) (waiting q f)) rest)
            refl) (record { says = refl; rest = refl; client = refl })
        go (some a) = ih a (waiting q f) rest

    leaves-stood : (d : Demand) (f : AnswerTo (leave d) → Talk Outcome) (m : Talk Outcome) → f tt ≡ m → Returns m
        → size_of (leave d) ≤ length buffer → (r : Round) (rs : List Round) → Lends n r → (past : Past)
        → (l : Left) (p : Option (ℕ × ℕ)) (at : ℕ) → Stood (ask (leave d) f) (r ∷ rs) past l p at
    unfolding play brought proceed seed_over id_over success
    leaves-stood d f (return o) e h fits r rs lends past l p at =
        rw (
          driven-leaves (seed_over seed past) (id_over id past) r rs lends p at d f o e fits,
          read-leave d r.event,
          rest-leave d r.event,
          e,
        ) (record { says = refl; rest = refl; client = refl })
    leaves-stood d f (stop k carries) e h fits r rs lends past l p at = absurd h
    leaves-stood d f (report x y m) e h fits r rs lends past l p at = absurd h
    leaves-stood d f (ask q g) e h fits r rs lends past l p at = absurd h

    stood : (most : ℕ) → most ≤ length buffer → (m : Talk Outcome) → Modest most m → (rs : List Round)
        → All (Lends n) rs → (past : Past) → Answered past → (l : Left) (p : Option (ℕ × ℕ)) (at : ℕ)
        → Stood m rs past l p at
    unfolding play brought proceed driven goes_on
    stood most big (return o) h rs lends past a l p at =
        rw (stays rs (proceed (client (seed_over seed past) (id_over id past) l) p (return o) at) refl)
        (record { says = sym (a p o); rest = refl; client = refl })
    stood most big (stop k carries) h rs lends past a l p at =
        rw (stays rs (proceed (client (seed_over seed past) (id_over id past) l) p (stop k carries) at) refl)
        (record { says = refl; rest = refl; client = refl })
    stood most big (report x y m) h rs lends past a l p at = stood most big m h rs lends past a l (some (x, y)) at
    stood most big (ask q f) h [] lends past a l p at =
        record { says = refl; rest = refl; client = record { then = f; client = refl } }
    stood most big (ask (select s) f) h (r ∷ rs) lends past a l p at =
        awaits-stood (select s) f tt (omega (arith, h.0)) r rs lends.0 past
        (λ x k b. stood most big (f x) (h.1.1 x) rs lends.1 _ (answered-now (select s) tt x past) k none b) l
        p at
    stood most big (ask (demand d) f) h (r ∷ rs) lends past a l p at =
        awaits-stood (demand d) f tt (omega (arith, h.0)) r rs lends.0 past
        (λ x k b. stood most big (f x) (h.1.1 x) rs lends.1 _ (answered-now (demand d) tt x past) k none b) l
        p at
    stood most big (ask (leave d) f) h (r ∷ rs) lends past a l p at =
        leaves-stood d f (f tt) refl h.1.0 (omega (arith, h.0)) r rs lends.0 past l p at

-- The result, from a client with no operation, over any rounds.
pub driven-stands : (buffer : List ℕ) → room ≤ length buffer
    → (n : Option ℕ) (seed : ℕ) (id : Option Id) (m : Talk Outcome) → Modest room m
    → (rounds : List Round) → All (Lends n) rounds
    → StandsAs n seed id (play m (events rounds) []) (brought m (events rounds) nothing_yet)
    (driven buffer rounds (start_with n (resting seed id) true m))
unfolding start_with seed_over id_over success
driven-stands buffer big n seed id m h rounds lends =
    stood buffer n seed id room big m h rounds lends [] (λ p o. refl) idle none 0
