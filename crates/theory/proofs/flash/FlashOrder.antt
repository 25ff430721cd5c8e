-- A flash keeps its order over any replies: it erases the planned addresses from the first on, and writes at most 17
-- times at one offset.
use Prim.Native.Nat.{ℕ, zero, suc, ◌+◌, ◌≤◌, ◌<◌, min}
use mathlib.Core.Bool.{Bool, true, false, not, cond}
use mathlib.Core.List.{List, [], ◌∷◌, ◌++◌, append_assoc, append-nil}
use mathlib.Core.Option.{Option, none, some}
use mathlib.Core.Path.{◌≡◌, refl, sym, ◌∙◌, ap}
use native.Mathlib.Omega.{arith}
use lib.Dec.{ltb, eqb}
use lib.ListN.{length, take}
use lib.Seq.{take-append_seam, take-nil}
use borrow.Author.Tests.{ltb-false, eqb-true, not-false}
use Rattle.paper.specs.Frame.{field, check, Info, status-CrcMismatch}
use Rattle.paper.specs.Hearing.{on_some}
use Rattle.paper.specs.Answers.{Reply, ok, device, sound, informed, spans_too_far, erase_addresses, too_large, incompatible}
use Rattle.paper.specs.Answers.{chunk, padded, below}
use Rattle.paper.specs.Talk.{Demand, Ask, demand, return, stop, Outcome, knows}
use Rattle.paper.specs.Flash.{info_request, erase_request, write_request, verify_request, inform, erase_one, erase_all}
use Rattle.paper.specs.Flash.{prepare, repeated, persist, write_within, write_one, offsets, write_all, verify, erase}
use Rattle.paper.specs.Flash.{flash, known}
use Rattle.theory.specs.FlashOrder.{Exchange, met, Past, Event, play, asks, everything, told_by, told_in, told}
use Rattle.theory.specs.FlashOrder.{is_ok, carried, wrote_in, written, erased_in, erased, erase_in, erases, write_in}
use Rattle.theory.specs.FlashOrder.{writes_at, planned, FrontOf, Passed, MayWrite, to_inform, to_erase, to_write}
use Rattle.theory.specs.FlashOrder.{to_verify, Fronts, Front, Allowed, Kept, Stands, Flashed}
use Rattle.theory.proofs.talk.TalkRules.{Always, always-bind, always-each, always-refuse_if, always-test}
use Rattle.theory.proofs.talk.TalkRules.{always-transact, play-kept, all_asked}
use Rattle.theory.proofs.flash.InfoRule.{sound-chunk, informed-sound}
use Rattle.theory.proofs.flash.WriteOffsets.{First, first, last, at_most, counted, uncounted}
use Rattle.paper.proofs.Chunks.{write-size}

pub told-still : (x : Exchange) (past : Past) (i : Info × List ℕ) → told past ≡ some i → told (x ∷ past) ≡ some i
unfolding told
told-still x past i e = rw e

pub planned-is : (past : Past) (i : Info × List ℕ) → told past ≡ some i → planned past ≡ erase_addresses i.0
unfolding planned
planned-is past i e = rw e

front-part : (all xs ys : List ℕ) → xs ++ ys ≡ all → FrontOf all xs
front-part all xs ys e = sym (take-append_seam xs ys) ∙ ap (take (length xs)) e

-- The past of a flash with these Erases left and nothing written.
record Erasing (info : Info) (image left : List ℕ) (past : Past) : Type 0 where
  tells : told past ≡ some (info, image)
  so_far : erased past ++ left ≡ erase_addresses info
  same : erases (asks past) ≡ erased past
  unwritten : written past ≡ 0
  none : (a : ℕ) → writes_at a (asks past) ≡ 0

begun : (payload image : List ℕ) (info : Info) → informed payload ≡ some info
    → Erasing info image (erase_addresses info) (met info_request (ok payload) image ∷ [])
unfolding told told_in told_by erased erased_in erases erase_in written wrote_in writes_at write_in is_ok
begun payload image info e = record { tells = rw e; so_far = refl; same = refl; unwritten = refl; none = λ a. refl }

-- After the Info, with all Erases left.
Begun : Past → Info × List ℕ → Type 0
Begun p r = Erasing r.0 r.1 (erase_addresses r.0) p × (sound r.0 ≡ true)

erasing-front : (info : Info) (image : List ℕ) (x : ℕ) (xs : List ℕ) (past : Past) → Erasing info image (x ∷ xs) past
    → Front past (demand (erase_request info x))
unfolding erases erase_in
erasing-front info image x xs past h =
    front-part (planned past) (erases (asks past) ++ (x ∷ [])) xs
    (append_assoc (erases (asks past)) (x ∷ []) xs
    ∙ ap (λ (l : List ℕ). l ++ (x ∷ xs)) h.same
    ∙ h.so_far
    ∙ sym (planned-is past (info, image) h.tells))

module _ (R : Past → Ask → Type 0) where
  inform-always : R [] (demand info_request) → Always R Begun [] inform
  unfolding inform Begun
  inform-always r = always-transact R Begun [] info_request _ r
      (λ payload image. go payload image (informed payload) refl)
    where
      go : (payload image : List ℕ) (i : Option Info) → informed payload ≡ i
          → Always R Begun (met info_request (ok payload) image ∷ [])
          (on_some i (stop 5 []) (λ info. return (info, image)))
      go payload image none e = tt
      go payload image (some info) e = (begun payload image info e, informed-sound payload info e)

  module _ (info : Info) (image : List ℕ)
      (may : spans_too_far info ≡ false → (x : ℕ) (xs : List ℕ) (past : Past) → Erasing info image (x ∷ xs) past
      → R past (demand (erase_request info x))) where
    abbrev Left : List ℕ → Past → Type 0
    Left xs p = Erasing info image xs p × (spans_too_far info ≡ false)

    erase-one : (x : ℕ) (xs : List ℕ) (past : Past) → Left (x ∷ xs) past
        → Always R (λ p _. Left xs p) past (erase_one info x)
    unfolding erase_one erased erased_in erases erase_in written wrote_in writes_at write_in is_ok
    erase-one x xs past (h, s) =
        always-transact R (λ p _. Left xs p) past (erase_request info x) _ (may s x xs past h)
        (λ payload lent. (
          record {
            tells = told-still _ past (info, image) h.tells;
            so_far = append_assoc (erased past) (x ∷ []) xs ∙ h.so_far;
            same = ap (λ (l : List ℕ). l ++ (x ∷ [])) h.same;
            unwritten = omega (arith, h.unwritten);
            none = λ a. omega (arith, h.none a);
          },
          s,
        ))

    erase-all : (past : Past) → Erasing info image (erase_addresses info) past
        → Always R (λ p _. Left [] p) past (erase_all info)
    unfolding erase_all
    erase-all past h =
        always-refuse_if R (λ p _. Left [] p) past (spans_too_far info) 19 [] _
        (λ s. always-each R Left (erase_one info) erase-one (erase_addresses info) past (h, s))

module _ (n : ℕ) where
  passed-still : (x : Exchange) (past : Past) (info : Info) → Passed n (told past) info
      → Passed n (told (x ∷ past)) info
  passed-still x past info h =
      record {
        image = h.image;
        tells = told-still x past (info, h.image) h.tells;
        fits = h.fits;
        suits = h.suits;
        spans = h.spans;
      }

  -- The past of a flash with these Writes left, the first of which may still be asked `times` times.
  record Writing (info : Info) (left : List ℕ) (times : ℕ) (past : Past) : Type 0 where
    offset : ℕ
    passed : Passed n (told past) info
    positive : 0 < chunk info.max_payload
    cleared : erased past ≡ erase_addresses info
    same : erases (asks past) ≡ erased past
    rest : left ≡ below (chunk info.max_payload) (padded n) offset
    total : written past ≡ min offset (padded n)
    few : (a : ℕ) → writes_at a (asks past) ≤ 17
    here : writes_at offset (asks past) + times ≤ 17
    none : (a : ℕ) → offset < a → writes_at a (asks past) ≡ 0

  -- After the last Erase, the Erases asked are those planned.
  cleared-front : (past : Past) (info : Info) → Passed n (told past) info → erased past ≡ erase_addresses info
      → erases (asks past) ≡ erased past
      → FrontOf (planned past) (erases (asks past) ++ [])
  cleared-front past info p c s =
      rw append-nil (front-part (planned past) (erases (asks past)) []
      (append-nil (erases (asks past)) ∙ s ∙ c ∙ sym (planned-is past (info, p.image) p.tells)))

  module _ (info : Info) (x : ℕ) (xs : List ℕ) where
    abbrev req : Demand
    req = write_request info n x

    at_first : (t : ℕ) (past : Past) (h : Writing info (x ∷ xs) t past)
        → First (chunk info.max_payload) (padded n) h.offset x xs
    at_first t past h = first (chunk info.max_payload) (padded n) h.offset x xs h.positive h.rest

    here-few : (t : ℕ) (past : Past) → Writing info (x ∷ xs) (suc t) past → (a : ℕ)
        → writes_at a (demand req ∷ asks past) ≤ 17
    unfolding writes_at write_in
    here-few t past h a =
        let f = at_first (suc t) past h in
        counted x a (writes_at a (asks past))
        (λ e. omega (arith, h.here, ap (λ (b : ℕ). writes_at b (asks past)) (sym e ∙ f.same))) (h.few a)

    may_write : (t : ℕ) (past : Past) → Writing info (x ∷ xs) (suc t) past → Allowed n past (demand req)
    unfolding erases erase_in
    may_write t past h =
        let f = at_first (suc t) past h in
        let at : x ≡ written past = omega (arith, f.same, f.inside, h.total) in
        record {
          ordered = to_write (record { info = info; passed = h.passed; cleared = h.cleared })
              (omega (arith, at, f.same, f.inside)) (ap (write_request info n) at);
          front = cleared-front past info h.passed h.cleared h.same;
          few = here-few t past h;
        }

    wrote-ok : (t : ℕ) (past : Past) (payload image : List ℕ) → Writing info (x ∷ xs) (suc t) past
        → Writing info xs 17 (met req (ok payload) image ∷ past)
    unfolding erased erased_in erases erase_in written wrote_in writes_at write_in is_ok carried
    wrote-ok t past payload image h =
        let f = at_first (suc t) past h in
        record {
          offset = h.offset + chunk info.max_payload;
          passed = passed-still _ past info h.passed;
          positive = h.positive;
          cleared = append-nil (erased past) ∙ h.cleared;
          same = simp append-nil h.same;
          rest = f.tail;
          total = omega (arith, write-size info n x, f.same, f.inside, h.total);
          few = here-few t past h;
          here =
              omega (
                arith,
                uncounted x (h.offset + chunk info.max_payload)
                    (writes_at (h.offset + chunk info.max_payload) (asks past)) (omega (arith, f.same, h.positive)),
                h.none (h.offset + chunk info.max_payload) (omega (arith, h.positive)),
              );
          none = λ a l. uncounted x a (writes_at a (asks past)) (omega (arith, f.same)) ∙ h.none a (omega arith);
        }

    wrote-bad : (t : ℕ) (past : Past) (status : ℕ) (image : List ℕ) → Writing info (x ∷ xs) (suc t) past
        → Writing info (x ∷ xs) t (met req (device status) image ∷ past)
    unfolding erased erased_in erases erase_in written wrote_in writes_at write_in is_ok carried
    wrote-bad t past status image h =
        let f = at_first (suc t) past h in
        record {
          offset = h.offset;
          passed = passed-still _ past info h.passed;
          positive = h.positive;
          cleared = append-nil (erased past) ∙ h.cleared;
          same = simp append-nil h.same;
          rest = h.rest;
          total = omega (arith, h.total);
          few = here-few t past h;
          here = omega (arith, at_most (eqb x h.offset), h.here);
          none = λ a l. uncounted x a (writes_at a (asks past)) (omega (arith, f.same)) ∙ h.none a l;
        }

    persist-always : (t : ℕ) (past : Past) → Writing info (x ∷ xs) t past
        → Always (Allowed n) (λ p _. Writing info xs 17 p) past (persist t req)
    unfolding persist repeated
    persist-always zero past h = tt
    persist-always (suc t) past h = (may_write t past h, λ a. go a.reply a.image (persist-always t))
      where
        Done : Past → Unit {0} → Type 0
        Done p _ = Writing info xs 17 p

        again : (b : Bool) (status : ℕ) (image : List ℕ)
            → ((p : Past) → Writing info (x ∷ xs) t p → Always (Allowed n) Done p (persist t req))
            → Always (Allowed n) Done (met req (device status) image ∷ past)
            (cond b (persist t req) (stop 2 (status ∷ [])))
        again true status image more = more _ (wrote-bad t past status image h)
        again false status image more = tt

        go : (r : Reply) (image : List ℕ)
            → ((p : Past) → Writing info (x ∷ xs) t p → Always (Allowed n) Done p (persist t req))
            → Always (Allowed n) Done (met req r image ∷ past) (repeated r (persist t req))
        go (ok payload) image more = wrote-ok t past payload image h
        go (device status) image more = again (eqb status status-CrcMismatch) status image more

    write-one : (past : Past) → Writing info (x ∷ xs) 17 past
        → Always (Allowed n) (λ p _. Writing info xs 17 p) past (write_one info n x)
    unfolding write_within
    write-one past h = always-bind (Allowed n) (λ p _. Writing info xs 17 p) (λ p _. Writing info xs 17 p) past
        (persist 17 req) _ (persist-always 17 past h) (λ p _ i. i)

  verify-always : (info : Info) (past : Past) → Writing info [] 17 past
      → Always (Allowed n) (λ p _. Flashed n p (knows info)) past (verify n)
  unfolding verify erased erased_in erases erase_in written wrote_in writes_at write_in is_ok
  verify-always info past h =
      always-transact (Allowed n) Done past (verify_request n) _
      (record {
        ordered = to_verify may total refl;
        front = cleared-front past info h.passed h.cleared h.same;
        few = λ a. omega (arith, h.few a);
      })
      (λ payload image.
      always-refuse_if (Allowed n) Done _ (ltb (length payload) 2) 18 [] _ (λ l.
      always-test (Allowed n) Done _ (not (eqb (check image) (field 0 2 payload))) 4 _ (λ e.
      record {
        may = record {
          info = info;
          passed = passed-still _ past info h.passed;
          cleared = append-nil (erased past) ∙ h.cleared;
        };
        all = omega (arith, total);
        verified = (
          refl,
          record {
            payload = payload;
            accepted = refl;
            long = ltb-false (length payload) 2 l;
            right = sym (eqb-true _ _ (not-false _ e));
          },
        );
        result = refl;
      })))
    where
      Done : Past → Unit {0} → Type 0
      Done p _ = Flashed n p (knows info)

      may : MayWrite n past
      may = record { info = info; passed = h.passed; cleared = h.cleared }

      total : written past ≡ padded n
      total = omega (arith, h.total, last (chunk info.max_payload) (padded n) h.offset h.positive h.rest)

  info-allowed : Allowed n [] (demand info_request)
  unfolding erases erase_in writes_at write_in
  info-allowed =
      record {
        ordered = to_inform refl refl;
        front = refl;
        few = λ a. omega arith;
      }

  -- After the Erases, with all Writes left.
  Erased : Past → Info → Type 0
  Erased p info = Writing info (offsets info n) 17 p

  module _ (info : Info) (image : List ℕ) (fits : too_large info n ≡ false)
      (suits : incompatible info image ≡ false) where
    erase-allowed : spans_too_far info ≡ false → (x : ℕ) (xs : List ℕ) (past : Past) → Erasing info image (x ∷ xs) past
        → Allowed n past (demand (erase_request info x))
    unfolding erases erase_in writes_at write_in
    erase-allowed spans x xs past h =
        record {
          ordered = to_erase (record {
            info = info;
            passed = record { image = image; tells = h.tells; fits = fits; suits = suits; spans = spans };
          }) refl;
          front = erasing-front info image x xs past h;
          few = λ a. omega (arith, h.none a);
        }

    all-erased : sound info ≡ true → (past : Past) → Erasing info image [] past × (spans_too_far info ≡ false)
        → Erased past info
    unfolding Erased offsets
    all-erased s past (h, spans) =
        record {
          offset = 0;
          passed = record { image = image; tells = h.tells; fits = fits; suits = suits; spans = spans };
          positive = omega (arith, sound-chunk info s);
          cleared = sym (append-nil (erased past)) ∙ h.so_far;
          same = h.same;
          rest = refl;
          total = omega (arith, h.unwritten);
          few = λ a. omega (arith, h.none a);
          here = omega (arith, h.none 0);
          none = λ a _. h.none a;
        }

  prepare-always : Always (Allowed n) Erased [] (prepare n)
  unfolding prepare Begun
  prepare-always =
      always-bind (Allowed n) Begun Erased [] inform _ (inform-always (Allowed n) info-allowed) (λ p r b.
      always-refuse_if (Allowed n) Erased p (too_large r.0 n) 3 _ _ (λ fits.
      always-refuse_if (Allowed n) Erased p (incompatible r.0 r.1) 6 _ _ (λ suits.
      always-bind (Allowed n) _ Erased p (erase_all r.0) _
      (erase-all (Allowed n) r.0 r.1 (erase-allowed r.0 r.1 fits suits) p b.0)
      (λ q _ e. all-erased r.0 r.1 fits suits b.1 q e))))

  pub flash-always : Always (Allowed n) (Flashed n) [] (flash n)
  unfolding flash write_all Erased
  flash-always =
      always-bind (Allowed n) Erased (Flashed n) [] (prepare n) _ prepare-always (λ p info w.
      always-bind (Allowed n) (λ q _. Writing info [] 17 q) (Flashed n) p (write_all info n) _
      (always-each (Allowed n) (λ xs q. Writing info xs 17 q) (write_one info n) (write-one info) (offsets info n) p w)
      (λ q _ i.
      always-bind (Allowed n) (λ q _. Flashed n q (knows info)) (Flashed n) q (verify n) (λ _. known info)
      (verify-always info q i) (λ _ _ f. f)))

  -- Each request was allowed when it was asked, and so is the one that is out. A flash that has returned has erased,
  -- written and verified all.
  pub flash-in-order : (es : List Event)
      → Kept (Allowed n) (play (flash n) es []).0
      × Stands (Allowed n) (Flashed n) (play (flash n) es []).0 (play (flash n) es []).1
  flash-in-order es = play-kept (Allowed n) (Flashed n) (flash n) es [] flash-always tt

-- The Erases asked, including the one that is out, are the first of those planned.
none-front : (all xs : List ℕ) → xs ≡ [] → FrontOf all xs
none-front all xs e = rw e

front-still : (past : Past) (x : Exchange) → Front past x.asked → Fronts (x ∷ past) (asks (x ∷ past))
unfolding planned told
front-still past x h = go (told past) h
  where
    qs : List ℕ
    qs = erases (asks (x ∷ past))

    go : (i : Option (Info × List ℕ)) → FrontOf (on_some i [] (λ i. erase_addresses i.0)) qs
        → FrontOf (on_some (on_some i (told_in x.asked x.answer) some) [] (λ i. erase_addresses i.0)) qs
    go none h = none-front _ qs (h ∙ take-nil (length qs))
    go (some i) h = h

pub flash-erases-front : (n : ℕ) (es : List Event)
    → Fronts (play (flash n) es []).0 (everything (play (flash n) es []))
unfolding erases
flash-erases-front n es =
    all_asked (Allowed n) (Flashed n) Fronts refl (λ past q h. h.front) (λ past x h. front-still past x h.front)
    (play (flash n) es []) (flash-in-order n es)

-- No address has more than 17 Writes.
pub flash-writes-few : (n : ℕ) (es : List Event) (a : ℕ) → writes_at a (everything (play (flash n) es [])) ≤ 17
unfolding writes_at
flash-writes-few n es a =
    all_asked (Allowed n) (Flashed n) (λ past qs. writes_at a qs ≤ 17) (omega arith) (λ past q h. h.few a)
    (λ past x h. h.few a) (play (flash n) es []) (flash-in-order n es)

module _ (es : List Event) where
  abbrev Any : Past → Outcome → Type 0
  Any past o = Unit {0}

  erase-always : Always Front Any [] erase
  unfolding erase Begun erases erase_in
  erase-always =
      always-bind Front Begun Any [] inform _ (inform-always Front refl) (λ p r b.
      always-bind Front _ Any p (erase_all r.0) _
      (erase-all Front r.0 r.1 (λ _. erasing-front r.0 r.1) p b.0) (λ q _ e. tt))

  pub erase-erases-front : Fronts (play erase es []).0 (everything (play erase es []))
  unfolding erases
  erase-erases-front =
      all_asked Front Any Fronts refl (λ past q h. h) front-still (play erase es [])
      (play-kept Front Any erase es [] erase-always tt)
