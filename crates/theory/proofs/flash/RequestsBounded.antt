-- Info, erase, flash and reset end: how many requests each asks at most, over any replies.
use Prim.Native.Nat.{ℕ, zero, suc, ◌+◌, ◌-◌, ◌*◌, ◌/◌, ◌≤◌, ◌<◌}
use mathlib.Core.Bool.{Bool, true, false, not, cond}
use mathlib.Core.List.{List, [], ◌∷◌}
use mathlib.Core.Option.{Option, none, some}
use mathlib.Core.Path.{◌≡◌, refl, ap, ◌∙◌}
use native.Mathlib.Nat.{mul-le-mul_left, le-mul_of_pos_right, div-lt_iff_lt-mul}
use native.Mathlib.Omega.{arith}
use lib.Dec.{ltb, eqb}
use lib.ListN.{length, length-map}
use borrow.Author.Tests.{ltb-false}
use Rattle.paper.specs.Frame.{field, check, Info, status-CrcMismatch}
use Rattle.paper.specs.Hearing.{on_some}
use Rattle.paper.specs.Answers.{Reply, ok, device, sound, informed, steps, spans_too_far, apart, below, erase_addresses}
use Rattle.paper.specs.Answers.{too_large, reported, incompatible, chunk, padded}
use Rattle.paper.specs.Talk.{Demand, demand, Answered, AnswerTo, Talk, return, stop, report, ask, ◌>>=◌, ◌>>◌, each}
use Rattle.paper.specs.Flash.{accepted, transact, refuse_if, info_request, keys, inform, erase_one, erase_all, repeated}
use Rattle.paper.specs.Flash.{persist, write_within, write_one, offsets, write_all, verify, known, inform_only, erase}
use Rattle.paper.specs.Flash.{prepare, flash, reset}
use Rattle.theory.specs.FlashOrder.{Exchange, met, Past, Event, Stand, lost, read_event, play, everything, told_by}
use Rattle.theory.specs.FlashOrder.{told_in, told, Ended, Bounded, most, erases_most, flash_most}
use Rattle.theory.proofs.talk.TalkRules.{bind_assoc}
use Rattle.theory.proofs.flash.FlashOrder.{told-still}
use Rattle.theory.proofs.flash.InfoRule.{sound-sizes, sound-chunk, informed-sound}
use Rattle.paper.proofs.Chunks.{padded-multiple}

-- The conversation asks at most k requests, whatever is answered.
abbrev Within : {A : Type 0} → ℕ → Talk A → Type 0
Within k (return a) = Unit {0}
Within k (stop c carries) = Unit {0}
Within k (report a b m) = Within k m
Within zero (ask q f) = ⊥
Within (suc k) (ask q f) = (a : AnswerTo q) → Within k (f a)

within_more : {A : Type 0} (j k : ℕ) (m : Talk A) → j ≤ k → Within j m → Within k m
within_more j k (return a) l h = tt
within_more j k (stop c carries) l h = tt
within_more j k (report a b m) l h = within_more j k m l h
within_more zero k (ask q f) l h = absurd h
within_more (suc j) zero (ask q f) l h = absurd (omega arith)
within_more (suc j) (suc k) (ask q f) l h = λ a. within_more j k (f a) (omega arith) (h a)

within-bind : {A B : Type 0} (j k l : ℕ) (m : Talk A) (f : A → Talk B) → j + k ≤ l → Within j m
    → ((a : A) → Within k (f a)) → Within l (m >>= f)
unfolding ◌>>=◌
within-bind j k l (return a) f s h g = within_more k l (f a) (omega arith) (g a)
within-bind j k l (stop c carries) f s h g = tt
within-bind j k l (report a b m) f s h g = within-bind j k l m f s h g
within-bind zero k l (ask q m) f s h g = absurd h
within-bind (suc j) k zero (ask q m) f s h g = absurd (omega arith)
within-bind (suc j) k (suc l) (ask q m) f s h g = λ a. within-bind j k l (m a) f (omega arith) (h a) g

within-each : (j k : ℕ) (f : ℕ → Talk (Unit {0})) → ((x : ℕ) → Within j (f x)) → (xs : List ℕ) → length xs * j ≤ k
    → Within k (each xs f)
unfolding each
within-each j k f h [] l = tt
within-each j k f h (x ∷ xs) l =
    within-bind j (length xs * j) k (f x) (λ _. each xs f) (omega arith) (h x)
    (λ _. within-each j (length xs * j) f h xs (omega arith))

within-refuse_if : {A : Type 0} (k : ℕ) (b : Bool) (c : ℕ) (v : List ℕ) (m : Talk A) → (b ≡ false → Within k m)
    → Within k (refuse_if b c v >> m)
unfolding refuse_if ◌>>=◌
within-refuse_if k true c v m h = tt
within-refuse_if k false c v m h = h refl

within-transact : {A : Type 0} (k : ℕ) (d : Demand) (f : List ℕ × List ℕ → Talk A)
    → ((payload image : List ℕ) → Within k (f (payload, image))) → Within (suc k) (transact d >>= f)
unfolding transact accepted ◌>>=◌
within-transact k d f h = λ a. go a.reply a.image
  where
    go : (r : Reply) (image : List ℕ) → Within k (accepted r image >>= f)
    go (ok payload) image = h payload image
    go (device status) image = tt

-- What this means after some events.
within-play : {A : Type 0} (k : ℕ) (m : Talk A) → Within k m → (es : List Event) (past : Past)
    → (length (everything (play m es past)) ≤ k + length past) × (k ≤ length es → Ended (play m es past).1)
unfolding play
within-play k (return a) h es past = (omega (arith, length-map past (λ x. x.asked)), λ _. tt)
within-play k (stop c carries) h es past = (omega (arith, length-map past (λ x. x.asked)), λ _. tt)
within-play k (report a b m) h es past = within-play k m h es past
within-play zero (ask q f) h es past = absurd h
within-play (suc k) (ask q f) h [] past = (omega (arith, length-map past (λ x. x.asked)), λ l. absurd (omega arith))
within-play {A} (suc k) (ask q f) h (e ∷ es) past =
    go (read_event q e) (λ a. within-play k (f a) (h a) es (record { asked = q; answer = a } ∷ past))
  where
    Fine : ℕ → ℕ → ℕ → Past × Stand A → Type 0
    Fine k n l r = (length (everything r) ≤ k + n) × (k ≤ l → Ended r.1)

    go : (r : Option (AnswerTo q))
        → ((a : AnswerTo q) → Fine k (suc (length past)) (length es)
        (play (f a) es (record { asked = q; answer = a } ∷ past)))
        → Fine (suc k) (length past) (suc (length es))
        (on_some r (past, lost q) (λ a. play (f a) es (record { asked = q; answer = a } ∷ past)))
    go none more = (omega (arith, length-map past (λ x. x.asked)), λ _. tt)
    go (some a) more = (omega (arith, (more a).0), λ l. (more a).1 (omega arith))

bounded : {A : Type 0} (k : ℕ) (m : Talk A) (es : List Event) → Within k m → Bounded k es (play m es [])
bounded k m es h = let w = within-play k m h es [] in record { few = omega (arith, w.0); ends = w.1 }

-- Once device information is known, it stays the same.
told-play : {A : Type 0} (i : Info × List ℕ) (m : Talk A) (es : List Event) (past : Past) → told past ≡ some i
    → told (play m es past).0 ≡ some i
unfolding play
told-play i (return a) es past h = h
told-play i (stop c carries) es past h = h
told-play i (report a b m) es past h = told-play i m es past h
told-play i (ask q f) [] past h = h
told-play {A} i (ask q f) (e ∷ es) past h =
    go (read_event q e) (λ a. told-play i (f a) es (record { asked = q; answer = a } ∷ past)
    (told-still (record { asked = q; answer = a }) past i h))
  where
    go : (r : Option (AnswerTo q))
        → ((a : AnswerTo q) → told (play (f a) es (record { asked = q; answer = a } ∷ past)).0 ≡ some i)
        → told (on_some r (past, lost q) (λ a. play (f a) es (record { asked = q; answer = a } ∷ past))).0 ≡ some i
    go none more = h
    go (some a) more = more a

module _ {A : Type 0} (g : Info × List ℕ → Talk A) where
  -- A conversation that begins with the Info, given a bound on the rest for sound device information.
  within-inform : (k : ℕ) → ((info : Info) (image : List ℕ) → sound info ≡ true → Within k (g (info, image)))
      → Within (suc k) (inform >>= g)
  unfolding inform ◌>>=◌
  within-inform k h = rw bind_assoc
      (within-transact k info_request _ (λ payload image. go payload image (informed payload) refl))
    where
      go : (payload image : List ℕ) (i : Option Info) → informed payload ≡ i
          → Within k (on_some i (stop 5 []) (λ info. return (info, image)) >>= g)
      go payload image none e = tt
      go payload image (some info) e = h info image (informed-sound payload info e)

  informed-bounded : (b : Info → ℕ) → ((i : Info × List ℕ) → Within (b i.0) (g i)) → (es : List Event)
      → Bounded (most b (told (play (inform >>= g) es []).0)) es (play (inform >>= g) es [])
  unfolding inform transact accepted ◌>>=◌ play most told told_in told_by
  informed-bounded b h [] = record { few = omega arith; ends = λ l. absurd (omega arith) }
  informed-bounded b h (e ∷ es) = go (read_event (demand info_request) e)
    where
      after : Answered → Talk A
      after a = accepted a.reply a.image >>=
          (λ p. on_some (informed p.0) (stop 5 []) (λ info. return (info, p.1))) >>= g

      Fine : Past × Stand A → Type 0
      Fine r = Bounded (most b (told r.0)) (e ∷ es) r

      known-fine : (x : Exchange) (i : Info × List ℕ) → told (x ∷ []) ≡ some i → Fine (play (g i) es (x ∷ []))
      known-fine x i t =
          let w = within-play (b i.0) (g i) (h i) es (x ∷ []) in
          rw (told-play i (g i) es (x ∷ []) t) (record { few = omega (arith, w.0); ends = λ l. w.1 (omega arith) })

      informs : (payload image : List ℕ) (o : Option Info) → informed payload ≡ o
          → Fine (play (on_some o (stop 5 []) (λ info. return (info, image)) >>= g) es
          (met info_request (ok payload) image ∷ []))
      informs payload image none q = rw q (record { few = omega arith; ends = λ _. tt })
      informs payload image (some info) q = known-fine _ (info, image) (rw q)

      answers : (r : Reply) (image : List ℕ)
          → Fine (play (after (record { reply = r; image = image })) es (met info_request r image ∷ []))
      answers (ok payload) image = informs payload image (informed payload) refl
      answers (device status) image = record { few = omega arith; ends = λ _. tt }

      go : (r : Option Answered) → Fine
          (on_some r ([], lost (demand info_request))
          (λ a. play (after a) es (record { asked = demand info_request; answer = a } ∷ [])))
      go none = record { few = omega arith; ends = λ _. tt }
      go (some a) = answers a.reply a.image

apart-length : (e k a : ℕ) → length (apart e k a) ≡ k
unfolding apart
apart-length e zero a = refl
apart-length e (suc k) a = ap suc (apart-length e k (a + e))

below_length : (e c : ℕ) → length (below e c 0) ≡ steps e c
unfolding below
below_length e c = apart-length e (steps e (c - 0)) 0 ∙ ap (steps e) (omega arith)

erase-all-within : (info : Info) (k : ℕ) → (spans_too_far info ≡ false → erases_most info ≤ k) → Within k (erase_all info)
unfolding erase_all erase_one erase_addresses erases_most
erase-all-within info k h =
    within-refuse_if k (spans_too_far info) 19 [] _ (λ s.
    within-each 1 k (erase_one info) (λ x. within-transact 0 _ _ (λ payload image. tt)) (erase_addresses info)
    (omega (arith, h s, below_length info.erase_size info.capacity)))

persist-within : (t : ℕ) (d : Demand) → Within t (persist t d)
unfolding persist repeated
persist-within zero d = tt
persist-within (suc t) d = λ a. go a.reply (persist-within t d)
  where
    again : (b : Bool) (status : ℕ) → Within t (persist t d) → Within t (cond b (persist t d) (stop 2 (status ∷ [])))
    again true status h = h
    again false status h = tt

    go : (r : Reply) → Within t (persist t d) → Within t (repeated r (persist t d))
    go (ok payload) h = tt
    go (device status) h = again (eqb status status-CrcMismatch) status h

write-all-within : (info : Info) (n k : ℕ) → 17 * steps (chunk info.max_payload) (padded n) ≤ k
    → Within k (write_all info n)
unfolding write_all write_within offsets
write-all-within info n k h =
    within-each 17 k (write_one info n)
    (λ x. within-bind 17 0 17 (persist 17 _) _ (omega arith) (persist-within 17 _) (λ _. tt)) (offsets info n)
    (omega (arith, below_length (chunk info.max_payload) (padded n)))

test-within : (b : Bool) (c : ℕ) (v : List ℕ) → Within 0 (refuse_if b c v)
unfolding refuse_if
test-within true c v = tt
test-within false c v = tt

verify-within : (n : ℕ) → Within 1 (verify n)
unfolding verify
verify-within n =
    within-transact 0 _ _ (λ payload image.
    within-refuse_if 0 (ltb (length payload) 2) 18 [] _
    (λ _. test-within (not (eqb (check image) (field 0 2 payload))) 4 (check image ∷ field 0 2 payload ∷ [])))

pub inform-bounded : (es : List Event) → Bounded 1 es (play inform_only es [])
unfolding inform_only
inform-bounded es = bounded 1 inform_only es (within-inform _ 0 (λ info image s. tt))

pub reset-bounded : (bootloader : Bool) (baud : Option ℕ) (awaited : Bool) (es : List Event)
    → Bounded 1 es (play (reset bootloader baud awaited) es [])
unfolding reset
reset-bounded bootloader baud true es =
    bounded 1 (reset bootloader baud true) es (within-transact 0 _ _ (λ payload image. tt))
reset-bounded bootloader baud false es = bounded 1 (reset bootloader baud false) es (λ _. tt)

erase-after : (info : Info) (k : ℕ) → (spans_too_far info ≡ false → erases_most info ≤ k)
    → Within k (erase_all info >> known info)
erase-after info k h = within-bind k 0 k (erase_all info) (λ _. known info) (omega arith) (erase-all-within info k h)
    (λ _. tt)

pub erase-bounded : (es : List Event) → Bounded (most erases_most (told (play erase es []).0)) es (play erase es [])
unfolding erase
erase-bounded es = informed-bounded _ erases_most (λ i. erase-after i.0 (erases_most i.0) (λ _. omega arith)) es

-- The part of a flash after the Info, for any bounds on its Erases and on its Writes.
flash-after : (n : ℕ) (info : Info) (image : List ℕ) (k l : ℕ) → (spans_too_far info ≡ false → erases_most info ≤ k)
    → 17 * steps (chunk info.max_payload) (padded n) ≤ l
    → Within (k + (l + 1))
    (refuse_if (too_large info n) 3 (reported n ∷ info.capacity ∷ []) >>
    (refuse_if (incompatible info image) 6 (keys info image) >> (erase_all info >> return info))
    >>= (λ info. write_all info n >> (verify n >> known info)))
unfolding ◌>>=◌
flash-after n info image k l h w =
    rw bind_assoc (within-refuse_if (k + (l + 1)) (too_large info n) 3 _ _ (λ _.
    rw bind_assoc (within-refuse_if (k + (l + 1)) (incompatible info image) 6 _ _ (λ _.
    rw bind_assoc (within-bind k (l + 1) (k + (l + 1)) (erase_all info) _ (omega arith) (erase-all-within info k h) (λ _.
    within-bind l 1 (l + 1) (write_all info n) _ (omega arith) (write-all-within info n l w) (λ _.
    within-bind 1 0 1 (verify n) _ (omega arith) (verify-within n) (λ _. tt))))))))

pub flash-bounded : (n : ℕ) (es : List Event)
    → Bounded (most (flash_most n) (told (play (flash n) es []).0)) es (play (flash n) es [])
unfolding flash prepare flash_most
flash-bounded n es = rw bind_assoc
    (informed-bounded _ (flash_most n)
    (λ i. flash-after n i.0 i.1 (erases_most i.0) _ (λ _. omega arith) (omega arith)) es)

-- Bounds that do not depend on the device information: Erases are refused with 19 if their addresses need more than 32
-- bits, and a chunk has at least 4 bytes.
erases-most : (info : Info) → sound info ≡ true → spans_too_far info ≡ false → erases_most info ≤ 0xFFFFFFFF
unfolding spans_too_far erases_most
erases-most info h s =
    omega (
      arith,
      ltb-false 0xFFFFFFFF (steps info.erase_size info.capacity * info.erase_size) s,
      le-mul_of_pos_right (steps info.erase_size info.capacity) (sound-sizes info h).erase_size,
    )

steps-most : (c p q : ℕ) → 4 ≤ c → p ≤ 4 * q → steps c p ≤ q
unfolding steps
steps-most c p q h l =
    let less : (p + (c - 1)) / c < q + 1 =
    (div-lt_iff_lt-mul {k = c} {x = p + (c - 1)} {y = q + 1} (omega arith)).1 (omega (arith, mul-le-mul_left q h)) in
    omega arith

writes-most : (info : Info) (n : ℕ) → sound info ≡ true → steps (chunk info.max_payload) (padded n) ≤ padded n / 4
writes-most info n h = steps-most (chunk info.max_payload) (padded n) (padded n / 4) (sound-chunk info h)
    (omega (arith, padded-multiple n))

pub erase-ends : (es : List Event) → Bounded (suc 0xFFFFFFFF) es (play erase es [])
unfolding erase
erase-ends es = bounded (suc 0xFFFFFFFF) erase es
    (within-inform _ 0xFFFFFFFF (λ info image s. erase-after info 0xFFFFFFFF (erases-most info s)))

pub flash-ends : (n : ℕ) (es : List Event)
    → Bounded (suc (0xFFFFFFFF + (17 * (padded n / 4) + 1))) es (play (flash n) es [])
unfolding flash prepare
flash-ends n es =
    bounded (suc (0xFFFFFFFF + (17 * (padded n / 4) + 1))) (flash n) es
    (rw bind_assoc (within-inform _ (0xFFFFFFFF + (17 * (padded n / 4) + 1)) (λ info image s.
    flash-after n info image 0xFFFFFFFF (17 * (padded n / 4)) (erases-most info s)
    (omega (arith, writes-most info n s)))))
