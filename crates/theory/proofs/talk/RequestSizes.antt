-- How long requests are: no request of an operation has more than 1,036 bytes.
use Prim.Native.Nat.{ℕ, zero, suc, ◌+◌, ◌-◌, ◌/◌, ◌≤◌}
use mathlib.Core.Bool.{Bool, true, false, not, cond}
use mathlib.Core.List.{List, [], ◌∷◌, ◌++◌}
use mathlib.Core.Option.{Option, none, some}
use mathlib.Core.Path.{◌≡◌, refl}
use native.Mathlib.Omega.{arith}
use lib.Dec.{eqb, ltb}
use lib.ListN.{length, drop, length-append}
use Rattle.paper.proofs.Bits.{bits-length}
use Rattle.lore.proofs.Choice.{either}
use Rattle.paper.proofs.Chunks.{chunk-most, write-size}
use Rattle.paper.proofs.Frames.{frame-length}
use Rattle.paper.proofs.Packed.{packed-length}
use Rattle.paper.specs.Frame.{le, Info, status-CrcMismatch}
use Rattle.paper.specs.Hearing.{Id, Prefix, Heard, nothing, one, unaddressed, garble, bits_of, select_payload}
use Rattle.paper.specs.Hearing.{select_frame, on_some, matches}
use Rattle.paper.specs.Answers.{Reply, ok, device, informed, spans_too_far, erase_addresses, too_large, incompatible}
use Rattle.paper.specs.Talk.{Payload, these, piece, Demand, Ask, select, demand, leave, AnswerTo, Talk, return, stop}
use Rattle.paper.specs.Talk.{report, ask, ◌>>=◌, each, walking}
use Rattle.paper.specs.Walk as Walk
use Rattle.paper.specs.Walk.{Walk, ◌▹◌, long, is_nothing, confirm_rest, confirm, keep, judge, walk, nobody}
use Rattle.paper.specs.Attach.{listen, select_only, deselect, prefix_of, met, attach, discover}
use Rattle.paper.specs.Flash.{info_request, write_request, erase_request, reset_request, accepted, transact, refuse_if}
use Rattle.paper.specs.Flash.{inform, erase_one, erase_all, prepare, repeated, persist, write_within, write_one, offsets}
use Rattle.paper.specs.Flash.{write_all, verify, inform_only, erase, flash, reset}
use Rattle.paper.specs.Client.{payload_of, demand_frame, bytes_of}
use Rattle.theory.specs.FlashOrder.{carried}
use Rattle.theory.specs.ClientDriven.{size_of}
use Rattle.theory.proofs.flash.WrittenBytes.{piece-length}

pub payload-size : (p : Payload) (image : List ℕ) → length (payload_of p image) ≡ carried p
unfolding payload_of carried
payload-size (these bytes) image = refl
payload-size (piece offset k) image = piece-length image offset k

demand-size : (d : Demand) (image : List ℕ) → length (payload_of d.payload image) ≡ carried d.payload
demand-size d image = payload-size d.payload image

-- The length of a request depends neither on the seed nor on the image lent.
pub asked-size : (q : Ask) (seed : ℕ) (image : List ℕ) → length (bytes_of q seed image) ≡ size_of q
unfolding bytes_of size_of select_payload
asked-size (select p) seed image =
    omega (arith, frame-length (select_frame seed p), packed-length ((length p + 7) / 8) p)
asked-size (demand d) seed image = omega (arith, frame-length (demand_frame d image), demand-size d image)
asked-size (leave d) seed image = omega (arith, frame-length (demand_frame d image), demand-size d image)

abbrev pub Returns : {A : Type 0} → Talk A → Type 0
Returns (return a) = Unit {0}
Returns (stop c carries) = ⊥
Returns (report a b m) = ⊥
Returns (ask q f) = ⊥

-- After a request whose answer is not awaited, the conversation returns.
abbrev pub Lasts : {A : Type 0} → (q : Ask) → (AnswerTo q → Talk A) → Type 0
Lasts (select p) f = Unit {0}
Lasts (demand d) f = Unit {0}
Lasts (leave d) f = Returns (f tt)

-- Whatever is answered, each request has at most `most` bytes, and one whose answer is not awaited is the last.
abbrev pub Modest : {A : Type 0} → ℕ → Talk A → Type 0
Modest most (return a) = Unit {0}
Modest most (stop c carries) = Unit {0}
Modest most (report a b m) = Modest most m
Modest most (ask q f) = (size_of q ≤ most) × (Lasts q f × ((a : AnswerTo q) → Modest most (f a)))

module _ (most : ℕ) where
  -- The same of a part of an operation, in which every answer is awaited.
  abbrev Going : {A : Type 0} → Talk A → Type 0
  Going (return a) = Unit {0}
  Going (stop c carries) = Unit {0}
  Going (report a b m) = Going m
  Going (ask (select p) f) = (size_of (select p) ≤ most) × ((h : Heard) → Going (f h))
  Going (ask (demand d) f) = (size_of (demand d) ≤ most) × ((a : AnswerTo (demand d)) → Going (f a))
  Going (ask (leave d) f) = ⊥

  going-modest : {A : Type 0} (m : Talk A) → Going m → Modest most m
  going-modest (return a) h = tt
  going-modest (stop c carries) h = tt
  going-modest (report a b m) h = going-modest m h
  going-modest (ask (select p) f) h = (h.0, (tt, λ a. going-modest (f a) (h.1 a)))
  going-modest (ask (demand d) f) h = (h.0, (tt, λ a. going-modest (f a) (h.1 a)))
  going-modest (ask (leave d) f) h = absurd h

  going-bind : {A B : Type 0} (m : Talk A) (f : A → Talk B) → Going m → ((a : A) → Going (f a)) → Going (m >>= f)
  unfolding ◌>>=◌
  going-bind (return a) f h g = g a
  going-bind (stop c carries) f h g = tt
  going-bind (report a b m) f h g = going-bind m f h g
  going-bind (ask (select p) m) f h g = (h.0, λ a. going-bind (m a) f (h.1 a) g)
  going-bind (ask (demand d) m) f h g = (h.0, λ a. going-bind (m a) f (h.1 a) g)
  going-bind (ask (leave d) m) f h g = absurd h

  going-each : (f : ℕ → Talk (Unit {0})) → ((x : ℕ) → Going (f x)) → (xs : List ℕ) → Going (each xs f)
  unfolding each
  going-each f h [] = tt
  going-each f h (x ∷ xs) = going-bind (f x) (λ _. each xs f) (h x) (λ _. going-each f h xs)

  going-refuse_if : (b : Bool) (c : ℕ) (v : List ℕ) → Going (refuse_if b c v)
  unfolding refuse_if
  going-refuse_if true c v = tt
  going-refuse_if false c v = tt

  going-transact : (d : Demand) → size_of (demand d) ≤ most → Going (transact d)
  unfolding transact accepted
  going-transact d h = (h, λ a. go a.reply a.image)
    where
      go : (r : Reply) (image : List ℕ) → Going (accepted r image)
      go (ok payload) image = tt
      go (device status) image = tt

  going-some : {A B : Type 0} (o : Option A) (m : Talk B) (f : A → Talk B) → Going m → ((a : A) → Going (f a))
      → Going (on_some o m f)
  going-some none m f h g = h
  going-some (some a) m f h g = g a

-- The longest request: a Write of 1,024 bytes.
abbrev pub room : ℕ
room = 1036

inform-going : Going room inform
unfolding inform size_of carried
inform-going =
    going-bind room (transact info_request) _ (going-transact room info_request (omega arith))
    (λ r. going-some room (informed r.0) _ _ tt (λ info. tt))

erase-all-going : (info : Info) → Going room (erase_all info)
unfolding erase_all erase_one size_of carried le
erase-all-going info =
    going-bind room (refuse_if (spans_too_far info) 19 []) _ (going-refuse_if room (spans_too_far info) 19 []) (λ _.
    going-each room (erase_one info)
    (λ x. going-bind room (transact (erase_request info x)) _
    (going-transact room (erase_request info x) (omega arith)) (λ _. tt)) (erase_addresses info))

persist-going : (t : ℕ) (d : Demand) → size_of (demand d) ≤ room → Going room (persist t d)
unfolding persist repeated
persist-going zero d h = tt
persist-going (suc t) d h = (h, λ a. go a.reply (persist-going t d h))
  where
    go : (r : Reply) → Going room (persist t d) → Going room (repeated r (persist t d))
    go (ok payload) g = tt
    go (device status) g = either (λ (m : Talk (Unit {0})). Going room m) (eqb status status-CrcMismatch)
        {x = persist t d} {y = stop 2 (status ∷ [])} g tt

write-all-going : (info : Info) (n : ℕ) → Going room (write_all info n)
unfolding write_all write_within size_of carried
write-all-going info n =
    going-each room (write_one info n)
    (λ x. going-bind room (persist 17 (write_request info n x)) _
    (persist-going 17 (write_request info n x) (omega (arith, write-size info n x, chunk-most info.max_payload)))
    (λ _. tt))
    (offsets info n)

verify-going : (n : ℕ) → Going room (verify n)
unfolding verify size_of carried
verify-going n =
    going-bind room (transact _) _ (going-transact room _ (omega arith)) (λ r.
    going-bind room (refuse_if _ 18 []) _ (going-refuse_if room _ 18 []) (λ _. going-refuse_if room _ 4 _))

prepare-going : (n : ℕ) → Going room (prepare n)
unfolding prepare
prepare-going n =
    going-bind room inform _ inform-going (λ r.
    going-bind room (refuse_if (too_large r.0 n) 3 _) _ (going-refuse_if room (too_large r.0 n) 3 _) (λ _.
    going-bind room (refuse_if (incompatible r.0 r.1) 6 _) _
    (going-refuse_if room (incompatible r.0 r.1) 6 _) (λ _.
    going-bind room (erase_all r.0) _ (erase-all-going r.0) (λ _. tt))))

-- Each Select of a walk has at most 129 bits.
abbrev Brief : {A : Type 0} → Walk A → Type 0
Brief (Walk.return a) = Unit {0}
Brief (Walk.stop c) = Unit {0}
Brief (Walk.select p f) = (length p ≤ 129) × ((h : Heard) → Brief (f h))

brief-bind : {A B : Type 0} (m : Walk A) (f : A → Walk B) → Brief m → ((a : A) → Brief (f a)) → Brief (Walk.◌>>=◌ m f)
unfolding Walk.◌>>=◌
brief-bind (Walk.return a) f h g = g a
brief-bind (Walk.stop c) f h g = tt
brief-bind (Walk.select p m) f h g = (h.0, λ x. brief-bind (m x) f (h.1 x) g)

brief-ask : (p : Prefix) → length p ≤ 129 → Brief (Walk.ask p)
unfolding Walk.ask
brief-ask p h = (h, λ x. either (λ (w : Walk Heard). Brief w) (long x) {x = Walk.stop 14} {y = Walk.return x} tt tt)

one_more : (p : Prefix) (b : Bool) → length (p ▹ b) ≡ length p + 1
one_more p b = length-append p (b ∷ [])

confirm-brief : (p : Prefix) (id : Id) → length p ≤ 128 → Brief (confirm p id)
unfolding confirm confirm_rest
confirm-brief p id h = either (λ (w : Walk Bool). Brief w) (matches p id)
    {x = confirm_rest p id (drop (length p) (bits_of id))} {y = Walk.return false} (rest (drop (length p) (bits_of id))) tt
  where
    rest : (bits : List Bool) → Brief (confirm_rest p id bits)
    rest [] = tt
    rest (b ∷ bits) =
        brief-bind (Walk.ask (p ▹ b)) _ (brief-ask (p ▹ b) (omega (arith, one_more p b))) (λ mine.
        brief-bind (Walk.ask (p ▹ not b)) _ (brief-ask (p ▹ not b) (omega (arith, one_more p (not b)))) (λ other. tt))

keep-brief : (ids : List Id) (id : Id) → Brief (keep ids id)
unfolding keep
keep-brief ids id = either (λ (w : Walk (List Id)). Brief w) (ltb (length ids) 64) {x = Walk.return (ids ++ (id ∷ []))}
    {y = Walk.stop 15} tt tt

judge-brief : (p : Prefix) (ids : List Id) (h : Heard) (m : Walk (List Id)) → length p ≤ 128 → Brief m
    → Brief (judge p ids h m)
unfolding judge
judge-brief p ids nothing m l b = tt
judge-brief p ids (one id) m l b =
    brief-bind (confirm p id) _ (confirm-brief p id l)
    (λ held. either (λ (w : Walk (List Id)). Brief w) held {x = keep ids id} {y = m} (keep-brief ids id) b)
judge-brief p ids unaddressed m l b = tt
judge-brief p ids garble m l b = b

walk-brief : (n : ℕ) (p : Prefix) (ids : List Id) (h : Heard) → length p + n ≤ 128 → Brief (walk n p ids h)
unfolding walk
walk-brief zero p ids h l = judge-brief p ids h (Walk.stop 12) (omega arith) tt
walk-brief (suc n) p ids h l =
    judge-brief p ids h _ (omega arith)
    (brief-bind (Walk.ask (p ▹ false)) _ (brief-ask (p ▹ false) (omega (arith, one_more p false))) (λ zeros.
    brief-bind (walk n (p ▹ false) ids zeros) _ (walk-brief n (p ▹ false) ids zeros (omega (arith, one_more p false)))
    (λ ids₁.
    brief-bind (cond (is_nothing zeros) (Walk.return garble) (Walk.ask (p ▹ true))) _
    (either (λ (w : Walk Heard). Brief w) (is_nothing zeros) {x = Walk.return garble} {y = Walk.ask (p ▹ true)} tt
    (brief-ask (p ▹ true) (omega (arith, one_more p true)))) (λ ones.
    walk-brief n (p ▹ true) ids₁ ones (omega (arith, one_more p true))))))

discover-brief : (p : Prefix) → length p ≤ 128 → Brief (Walk.discover p)
unfolding Walk.discover nobody
discover-brief p l =
    brief-bind (Walk.ask p) _ (brief-ask p (omega arith)) (λ h.
    brief-bind (walk (128 - length p) p [] h) _ (walk-brief (128 - length p) p [] h (omega arith)) (λ ids.
    (omega arith, λ _. tt)))

walking-going : {A : Type 0} (w : Walk A) → Brief w → Going room (walking w)
unfolding walking size_of
walking-going (Walk.return a) h = tt
walking-going (Walk.stop c) h = tt
walking-going (Walk.select p f) h = (omega (arith, h.0), λ x. walking-going (f x) (h.1 x))

listen-going : (p : Prefix) → length p ≤ 129 → Going room (listen p)
unfolding listen
listen-going p h = walking-going (Walk.ask p) (brief-ask p h)

deselect-going : Going room deselect
unfolding deselect size_of nobody
deselect-going = (omega arith, λ _. tt)

-- Each operation.
pub select-modest : (p : Prefix) → length p ≤ 129 → Modest room (select_only p)
unfolding select_only
select-modest p h = going-modest room (select_only p) (going-bind room (listen p) _ (listen-going p h) (λ _. tt))

pub deselect-modest : Modest room deselect
deselect-modest = going-modest room deselect deselect-going

pub attach-modest : (uid : Option Id) → length (prefix_of uid) ≤ 129 → Modest room (attach uid)
unfolding attach met
attach-modest uid l = going-modest room (attach uid)
    (going-bind room (listen (prefix_of uid)) (met uid) (listen-going (prefix_of uid) l) meets)
  where
    meets : (h : Heard) → Going room (met uid h)
    meets nothing = going-some room uid _ _ tt (λ given. tt)
    meets (one id) = tt
    meets unaddressed = going-some room uid _ _ tt (λ given. tt)
    meets garble = going-bind room deselect _ deselect-going (λ _. going-some room uid _ _ tt (λ given. tt))

pub discover-modest : (given : Id) → length given ≤ 16 → Modest room (discover given)
unfolding discover
discover-modest given l =
    going-modest room (discover given)
    (going-bind room (walking (Walk.discover (bits_of given))) _
    (walking-going _ (discover-brief (bits_of given) (omega (arith, bits-length given)))) (λ _. tt))

pub inform-modest : Modest room inform_only
unfolding inform_only
inform-modest = going-modest room inform_only (going-bind room inform _ inform-going (λ _. tt))

pub erase-modest : Modest room erase
unfolding erase
erase-modest = going-modest room erase
    (going-bind room inform _ inform-going
    (λ r. going-bind room (erase_all r.0) _ (erase-all-going r.0) (λ _. tt)))

pub flash-modest : (n : ℕ) → Modest room (flash n)
unfolding flash
flash-modest n =
    going-modest room (flash n)
    (going-bind room (prepare n) _ (prepare-going n) (λ info.
    going-bind room (write_all info n) _ (write-all-going info n) (λ _.
    going-bind room (verify n) _ (verify-going n) (λ _. tt))))

pub reset-modest : (bootloader : Bool) (baud : Option ℕ) (awaited : Bool) → Modest room (reset bootloader baud awaited)
unfolding reset size_of carried
reset-modest bootloader baud true =
    going-modest room (reset bootloader baud true)
    (going-bind room (transact (reset_request bootloader baud)) _
    (going-transact room (reset_request bootloader baud) (omega arith)) (λ _. tt))
reset-modest bootloader baud false = (omega arith, (tt, λ _. tt))
