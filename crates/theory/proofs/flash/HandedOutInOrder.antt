-- The requests that a driven flash hands out are in order, as read from their bytes and from the events after them.
use Prim.Native.Nat.{ℕ, ◌+◌, ◌≤◌}
use mathlib.Core.Bool.{true, ◌&&◌, cond}
use mathlib.Core.List.{List, [], ◌∷◌, ◌++◌, append_assoc, append-nil}
use mathlib.Core.Option.{Option, none, some}
use mathlib.Core.Path.{◌≡◌, refl, sym, ◌∙◌, ap, subst}
use native.Mathlib.Omega.{arith}
use lib.Dec.{eqb}
use lib.ListN.{length}
use Rattle.paper.specs.Answers.{padded}
use Rattle.paper.specs.Client.{Left, idle, waiting, Client, Told, over, start_with, proceed, seed_after, fails}
use Rattle.paper.specs.Client.{demand_frame, bytes_of}
use Rattle.paper.specs.Count.{All}
use Rattle.paper.specs.Frame.{Frame, Reading, whole, read, frame_bytes, Info, command-Erase, command-Write}
use Rattle.paper.specs.Hearing.{Id, on_some}
use Rattle.paper.specs.Talk.{Demand, select, demand, leave, Answered, AnswerTo, Talk, return, stop, report, ask}
use Rattle.paper.specs.Talk.{Outcome, knows}
use Rattle.paper.specs.Flash.{flash}
use Rattle.paper.proofs.Frames.{frame-length}
use Rattle.paper.proofs.Words.{Bytes}
use Rattle.theory.specs.FlashOrder as Order
use Rattle.theory.specs.FlashOrder.{Past, Event, heard, failed, Stand, returned, refused, lost, pending}
use Rattle.theory.specs.FlashOrder.{unanswered, read_event, play, is_ok, Passed, MayWrite, InOrder, to_inform}
use Rattle.theory.specs.FlashOrder.{to_erase, to_write, to_verify, Allowed, Stands, Flashed}
use Rattle.theory.specs.ClientDriven.{Round, events, Sent, goes_on, driven, sends, Lends, Brought, nothing_yet}
use Rattle.theory.specs.ClientDriven.{rest_after, brought, said_at, resting}
use Rattle.theory.specs.HandedOut.{answered_by, said, told_in, told, erased_in, erased, written_in, written, IsFrame}
use Rattle.theory.specs.HandedOut.{Hands, Passes, Cleared, FlashOrder}
use Rattle.theory.proofs.talk.TalkRules.{Always}
use Rattle.theory.proofs.client.DrivenIsTalk.{goes, quiet, sends-awaits, driven-stands}
use Rattle.theory.proofs.EachMember.{all_both}
use Rattle.theory.proofs.flash.FramesFit.{in-order-fits}
use Rattle.theory.proofs.flash.FlashOrder.{flash-always, flash-in-order}
use Rattle.theory.proofs.frames.FramesReadBack.{read-written}
use Rattle.theory.proofs.talk.RequestSizes.{payload-size, Modest, room, flash-modest}

-- What `said` gives for a request that is a frame.
module _ (s : Sent) (f : Frame) (e : read s.bytes ≡ whole 0 f) where
  said-is : {A : Type 0} (other : A) (g : Frame → Answered → A)
      → said s other g ≡ on_some (answered_by s.then) other (g f)
  unfolding said
  said-is other g = rw e

-- What is told, erased and written, with one more request at the end.
told-snoc : (xs : List Sent) (s : Sent) → told (xs ++ (s ∷ [])) ≡ on_some (told xs) (told_in s) some
unfolding told
told-snoc [] s = go (told_in s)
  where
    go : (o : Option (Info × List ℕ)) → on_some o none some ≡ o
    go none = refl
    go (some i) = refl
told-snoc (x ∷ xs) s = rw (told-snoc xs s) (go (told_in x))
  where
    go : (o : Option (Info × List ℕ))
        → on_some o (on_some (told xs) (told_in s) some) some ≡ on_some (on_some o (told xs) some) (told_in s) some
    go none = refl
    go (some i) = refl

erased-snoc : (xs : List Sent) (s : Sent) → erased (xs ++ (s ∷ [])) ≡ erased xs ++ erased_in s
unfolding erased
erased-snoc [] s = append-nil (erased_in s)
erased-snoc (x ∷ xs) s = rw (erased-snoc xs s) (sym (append_assoc (erased_in x) (erased xs) (erased_in s)))

written-snoc : (xs : List Sent) (s : Sent) → written (xs ++ (s ∷ [])) ≡ written_in s + written xs
unfolding written
written-snoc [] s = refl
written-snoc (x ∷ xs) s = omega (arith, written-snoc xs s)

-- The requests handed out give the same information, erased addresses and written length as the exchanges.
record Tallies (past : Past) (before : List Sent) : Type 0 where
  tells : told before ≡ Order.told past
  erases : erased before ≡ Order.erased past
  writes : written before ≡ Order.written past

tallies-none : Tallies [] []
unfolding told erased written Order.told Order.erased Order.written
tallies-none = record { tells = refl; erases = refl; writes = refl }

-- The request is a frame, and is in order after the requests `before`.
record InTurn (n : ℕ) (before : List Sent) (s : Sent) : Type 0 where
  framed : IsFrame s
  erases : framed.frame.command ≡ command-Erase → Passes n before
  writes : framed.frame.command ≡ command-Write → Cleared n before
  addresses : framed.frame.command ≡ command-Write → framed.frame.address ≡ written before

module _ (n : ℕ) (image : List ℕ) (lent : length image ≡ n) (bytes : Bytes image) where
  abbrev frame : Demand → Frame
  frame d = demand_frame d image

  -- A request of a flash and the event after it.
  module _ (past : Past) (d : Demand) (may : Allowed n past (demand d)) (seed : ℕ) (e : Event) where
    abbrev request : Sent
    request = record { bytes = bytes_of (demand d) seed image; then = some e }

    request-read : read request.bytes ≡ whole 0 (frame d)
    unfolding bytes_of
    request-read = ap read (sym (append-nil (frame_bytes (frame d))))
        ∙ read-written (frame d) (in-order-fits n image lent bytes past d may) []

    answered-as : answered_by (some e) ≡ read_event (demand d) e
    unfolding answered_by read_event unanswered
    answered-as = go e
      where
        go : (e : Event) → answered_by (some e) ≡ read_event (demand d) e
        go (heard image bytes) = refl
        go failed = refl

    request-says : {A : Type 0} (o : Option Answered) → read_event (demand d) e ≡ o
        → (other : A) (g : Frame → Answered → A) → said request other g ≡ on_some o other (g (frame d))
    request-says o q other g = said-is request (frame d) request-read other g
        ∙ ap (λ (o : Option Answered). on_some o other (g (frame d))) (answered-as ∙ q)

    module _ (before : List Sent) (t : Tallies past before) where
      -- One more request handed out, given what it adds.
      tallies-more : (after : Past)
          → on_some (Order.told past) (told_in request) some ≡ Order.told after
          → Order.erased past ++ erased_in request ≡ Order.erased after
          → written_in request + Order.written past ≡ Order.written after
          → Tallies after (before ++ (request ∷ []))
      tallies-more after h k l =
          record {
            tells = told-snoc before request
                ∙ ap (λ (o : Option (Info × List ℕ)). on_some o (told_in request) some) t.tells ∙ h;
            erases = erased-snoc before request ∙ ap (λ (xs : List ℕ). xs ++ erased_in request) t.erases ∙ k;
            writes = written-snoc before request ∙ ap (λ (x : ℕ). written_in request + x) t.writes ∙ l;
          }

      tallies-answered : (a : Answered) → read_event (demand d) e ≡ some a
          → Tallies (record { asked = demand d; answer = a } ∷ past) (before ++ (request ∷ []))
      unfolding told_in erased_in written_in Order.told Order.told_in Order.erased Order.erased_in Order.written
          Order.wrote_in
      tallies-answered a q =
          tallies-more (record { asked = demand d; answer = a } ∷ past)
          (ap (λ (o : Option (Info × List ℕ)). on_some (Order.told past) o some) (request-says (some a) q none _))
          (ap (λ (xs : List ℕ). Order.erased past ++ xs) (request-says (some a) q [] _))
          (ap (λ (x : ℕ). x + Order.written past)
          (request-says (some a) q 0 _ ∙ ap (λ (x : ℕ). cond (eqb d.command command-Write && is_ok a.reply) x 0)
          (payload-size d.payload image)))

      tallies-lost : read_event (demand d) e ≡ none → Tallies past (before ++ (request ∷ []))
      unfolding told_in erased_in written_in
      tallies-lost q =
          tallies-more past
          (ap (λ (o : Option (Info × List ℕ)). on_some (Order.told past) o some) (request-says none q none _)
          ∙ same (Order.told past))
          (ap (λ (xs : List ℕ). Order.erased past ++ xs) (request-says none q [] _) ∙ append-nil (Order.erased past))
          (let nothing : written_in request ≡ 0 = request-says none q 0 _ in omega (arith, nothing))
        where
          same : (o : Option (Info × List ℕ)) → on_some o none some ≡ o
          same none = refl
          same (some i) = refl

      -- The request is in order.
      in-turn : InTurn n before request
      unfolding bytes_of
      in-turn = record {
        framed = record { frame = frame d; reads = request-read; all = frame-length (frame d) };
        erases = may-erase may.ordered;
        writes = may_write may.ordered;
        addresses = at-written may.ordered;
      }
        where
          passes : (info : Info) → Passed n (Order.told past) info → Passed n (told before) info
          passes info p = record {
            image = p.image;
            tells = t.tells ∙ p.tells;
            fits = p.fits;
            suits = p.suits;
            spans = p.spans;
          }

          cleared : MayWrite n past → Cleared n before
          cleared may = record {
            info = may.info;
            passed = passes may.info may.passed;
            erases = t.erases ∙ may.cleared;
          }

          may-erase : InOrder n past d → d.command ≡ command-Erase → Passes n before
          may-erase (to_inform _ e) w = absurd (let z : ◌≡◌ {A = ℕ} 0 1 = cc in omega arith)
          may-erase (to_erase may _) w = record { info = may.info; passed = passes may.info may.passed }
          may-erase (to_write may _ _) w = record { info = may.info; passed = passes may.info may.passed }
          may-erase (to_verify may _ _) w = record { info = may.info; passed = passes may.info may.passed }

          may_write : InOrder n past d → d.command ≡ command-Write → Cleared n before
          may_write (to_inform _ e) w = absurd (let z : ◌≡◌ {A = ℕ} 0 2 = cc in omega arith)
          may_write (to_erase _ e) w = absurd
              (let z : ◌≡◌ {A = ℕ} 1 2 = ap (λ (d : Demand). d.command) (sym e) ∙ w in omega arith)
          may_write (to_write may _ _) w = cleared may
          may_write (to_verify may _ _) w = cleared may

          at-written : InOrder n past d → d.command ≡ command-Write → d.address ≡ written before
          at-written (to_inform _ e) w = absurd (let z : ◌≡◌ {A = ℕ} 0 2 = cc in omega arith)
          at-written (to_erase _ e) w = absurd
              (let z : ◌≡◌ {A = ℕ} 1 2 = ap (λ (d : Demand). d.command) (sym e) ∙ w in omega arith)
          at-written (to_write _ _ e) w = ap (λ (d : Demand). d.address) e ∙ sym t.writes
          at-written (to_verify _ _ e) w = absurd (let z : ◌≡◌ {A = ℕ} 3 2 = cc in omega arith)

-- P holds of each request, given those before it.
abbrev Each : (List Sent → Sent → Type 0) → List Sent → List Sent → Type 0
Each P before [] = Unit {0}
Each P before (s ∷ ss) = P before s × Each P (before ++ (s ∷ [])) ss

module _ (buffer : List ℕ) (most : ℕ) (big : most ≤ length buffer) (n : ℕ) where
  abbrev Lent : Round → Type 0
  Lent r = Lends (some n) r × Bytes r.lent

  abbrev from : ℕ → Option Id → Left → Client
  from seed id l = record { seed = seed; id = id; image = some n; left = l }

  record Handed (before : List Sent) (past : Past) (ss : List Sent) : Type 0 where
    each : Each (InTurn n) before ss
    tallies : Tallies past (before ++ ss)

  nothing-handed : (before : List Sent) (past : Past) → Tallies past before → Handed before past []
  nothing-handed before past t = record { each = tt; tallies = subst (Tallies past) (sym (append-nil before)) t }

  -- One request, and those that follow its answer.
  module _ (d : Demand) (f : AnswerTo (demand d) → Talk Outcome) (r : Round) (rs : List Round) (lent : Lent r)
      (past : Past) (may : Allowed n past (demand d)) (before : List Sent) (t : Tallies past before) (seed : ℕ)
      (id : Option Id) where
    abbrev now : Sent
    now = record { bytes = bytes_of (demand d) seed r.lent; then = some r.event }

    abbrev On : Answered → Past
    On a = record { asked = demand d; answer = a } ∷ past

    now-in-turn : InTurn n before now
    now-in-turn = in-turn n r.lent lent.0.0 lent.1 past d may seed r.event before t

    round-handed : (o : Option Answered) → read_event (demand d) r.event ≡ o
        → ((a : Answered) → Tallies (On a) (before ++ (now ∷ [])) → (l : Left) (at : ℕ)
        → Handed (before ++ (now ∷ [])) (play (f a) (events rs) (On a)).0
        (sends buffer rs (proceed (from seed id l) none (f a) at)))
        → Handed before (on_some o (past, lost (demand d)) (λ a. play (f a) (events rs) (On a))).0
        (now ∷ sends buffer rs (goes buffer (some n) (demand d) f seed id r.event o))
    unfolding goes goes_on
    round-handed none e ih =
        rw (quiet buffer (some n) rs (fails (from seed id (waiting (demand d) f)) (rest_after (demand d) r.event))
        refl)
        (record {
          each = (now-in-turn, tt);
          tallies = tallies-lost n r.lent lent.0.0 lent.1 past d may seed r.event before t e;
        })
    round-handed (some a) e ih =
        let after = ih a (tallies-answered n r.lent lent.0.0 lent.1 past d may seed r.event before t a e)
        (waiting (demand d) f) (rest_after (demand d) r.event) in
        record {
          each = (now-in-turn, after.each);
          tallies = subst (Tallies (play (f a) (events rs) (On a)).0)
              (append_assoc before (now ∷ []) _) after.tallies;
        }

  handed : (m : Talk Outcome) → Modest most m → (rs : List Round) → All Lent rs → (past : Past)
      → Always (Allowed n) (Flashed n) past m → (before : List Sent) → Tallies past before
      → (seed : ℕ) (id : Option Id) (l : Left) (p : Option (ℕ × ℕ)) (at : ℕ)
      → Handed before (play m (events rs) past).0 (sends buffer rs (proceed (from seed id l) p m at))
  unfolding play proceed sends goes_on
  handed (return o) h rs lent past w before t seed id l p at =
      rw (quiet buffer (some n) rs (proceed (from seed id l) p (return o) at) refl) (nothing-handed before past t)
  handed (stop k carries) h rs lent past w before t seed id l p at =
      rw (quiet buffer (some n) rs (proceed (from seed id l) p (stop k carries) at) refl) (nothing-handed before past t)
  handed (report x y m) h rs lent past w before t seed id l p at =
      handed m h rs lent past w before t seed id l (some (x, y)) at
  handed (ask q f) h [] lent past w before t seed id l p at = nothing-handed before past t
  handed (ask (select s) f) h (r ∷ rs) lent past w before t seed id l p at = absurd w.0.ordered
  handed (ask (leave d) f) h (r ∷ rs) lent past w before t seed id l p at = absurd w.0.ordered
  handed (ask (demand d) f) h (r ∷ rs) lent past w before t seed id l p at =
      rw (sends-awaits buffer (some n) seed id r rs lent.0.0 p at (demand d) f tt (omega (arith, h.0)))
      (round-handed d f r rs lent.0 past w.0 before t (seed_after (demand d) seed) id
      (read_event (demand d) r.event) refl
      (λ a v k at. handed (f a) (h.1.1 a) rs lent.1 (record { asked = demand d; answer = a } ∷ past) (w.1 a)
      (before ++ (_ ∷ [])) v (seed_after (demand d) seed) id k none at))

-- A request handed out, with those before it and those after it.
each-cut : (P : List Sent → Sent → Type 0) (before ss mid later : List Sent) (s : Sent) → Each P before ss
    → ss ≡ mid ++ (s ∷ later) → P (before ++ mid) s
each-cut P before [] [] later s h e = absurd (let z : ◌≡◌ {A = ℕ} 0 1 = cc in omega arith)
each-cut P before [] (y ∷ mid) later s h e = absurd (let z : ◌≡◌ {A = ℕ} 0 1 = cc in omega arith)
each-cut P before (x ∷ ss) [] later s h e = let same : x ≡ s = cc
    in subst (P (before ++ [])) same (subst (λ (l : List Sent). P l x) (sym (append-nil before)) h.0)
each-cut P before (x ∷ ss) (y ∷ mid) later s h e =
    let same : x ≡ y = cc in
    let rest : ss ≡ mid ++ (s ∷ later) = cc in
    subst (λ (z : Sent). P (before ++ (z ∷ mid)) s) same
    (subst (λ (l : List Sent). P l s) (append_assoc before (x ∷ []) mid)
    (each-cut P (before ++ (x ∷ [])) ss mid later s h.1 rest))

each-framed : (n : ℕ) (before ss : List Sent) → Each (InTurn n) before ss → All IsFrame ss
each-framed n before [] h = tt
each-framed n before (s ∷ ss) h = (h.0.framed, each-framed n (before ++ (s ∷ [])) ss h.1)

-- A reading has one frame.
one-frame : (r : Reading) (f g : Frame) → r ≡ whole 0 f → r ≡ whole 0 g → f ≡ g
one-frame r f g h k = let same : whole 0 f ≡ whole 0 g = sym h ∙ k in cc

-- On success the padded length was written.
all-written : (n : ℕ) (past : Past) (s : Stand Outcome) (b : Brought) (p : Option (ℕ × ℕ)) (info : Info)
    → Stands (Allowed n) (Flashed n) past s → said_at (past, s) b ≡ over p (knows info)
    → Order.written past ≡ padded n
all-written n past (returned o) b p info h e = h.all
all-written n past (refused k carries) b p info h e = absurd (let z : ◌≡◌ {A = ℕ} 0 1 = cc in omega arith)
all-written n past (lost q) b p info h e = absurd (let z : ◌≡◌ {A = ℕ} 0 1 = cc in omega arith)
all-written n past (pending q) b p info h e = absurd (let z : ◌≡◌ {A = ℕ} 0 1 = cc in omega arith)

-- A flash of an image of n bytes, over any rounds in which images of that length are lent.
module _ (buffer : List ℕ) (big : room ≤ length buffer) (n : ℕ) (seed : ℕ) (id : Option Id) (rounds : List Round)
    (lent : All (Lends (some n)) rounds) (bytes : All (λ r. Bytes r.lent) rounds) where
  abbrev start : Told
  start = start_with (some n) (resting seed id) true (flash n)

  flash-handed : Handed buffer room big n [] (play (flash n) (events rounds) []).0 (sends buffer rounds start)
  unfolding start_with
  flash-handed = handed buffer room big n (flash n) (flash-modest n) rounds
      (all_both (Lends (some n)) (λ r. Bytes r.lent) rounds lent bytes) []
      (flash-always n) [] tallies-none seed id idle none 0

  at_turn : (before : List Sent) (f : Frame) → (h : Hands (sends buffer rounds start) before f)
      → (framed : IsFrame h.sent) → framed.frame ≡ f
  at_turn before f h framed = one-frame _ framed.frame f framed.reads h.frame

  pub flash-order : FlashOrder n (sends buffer rounds start) (driven buffer rounds start).says
  flash-order = record {
    frames = each-framed n [] (sends buffer rounds start) flash-handed.each;
    erases = λ before f h c. let w = turn before f h
        in w.erases (ap (λ (g : Frame). g.command) (at_turn before f h w.framed) ∙ c);
    writes = λ before f h c. let w = turn before f h
        in w.writes (ap (λ (g : Frame). g.command) (at_turn before f h w.framed) ∙ c);
    addresses = λ before f h c.
        let w = turn before f h in
        let same = at_turn before f h w.framed in
        ap (λ (g : Frame). g.address) (sym same) ∙ w.addresses (ap (λ (g : Frame). g.command) same ∙ c);
    total = λ p info e.
        flash-handed.tallies.writes
        ∙ all-written n (play (flash n) (events rounds) []).0 (play (flash n) (events rounds) []).1
        (brought (flash n) (events rounds) nothing_yet) p info (flash-in-order n (events rounds)).1
        (sym (driven-stands buffer big (some n) seed id (flash n) (flash-modest n) rounds lent).says ∙ e);
  }
    where
      turn : (before : List Sent) (f : Frame) → (h : Hands (sends buffer rounds start) before f)
          → InTurn n before h.sent
      turn before f h = each-cut (InTurn n) [] _ before h.later h.sent flash-handed.each h.cut
