-- Rules to prove what holds of every way a conversation can go: one for each form, and what follows for any events.
use Prim.Native.Nat.{ℕ}
use mathlib.Core.Bool.{Bool, true, false}
use mathlib.Core.List.{List, [], ◌∷◌}
use mathlib.Core.Option.{Option, none, some}
use mathlib.Core.Path.{◌≡◌, refl}
use Rattle.paper.specs.Answers.{Reply, ok, device}
use Rattle.paper.specs.Count.{All}
use Rattle.paper.specs.Hearing.{on_some}
use Rattle.paper.specs.Talk.{Demand, Ask, demand, AnswerTo, Talk, return, stop, report, ask, ◌>>=◌, ◌>>◌, each}
use Rattle.paper.specs.Flash.{accepted, transact, refuse_if}
use Rattle.theory.specs.FlashOrder.{Exchange, met, Past, Event, Stand, returned, refused, lost, pending}
use Rattle.theory.specs.FlashOrder.{read_event, play, asks, everything, Kept, Stands}

-- Whatever is answered, each request satisfies R with the exchanges before it, and a value returned satisfies Q.
abbrev pub Always : {A : Type 0} → (Past → Ask → Type 0) → (Past → A → Type 0) → Past → Talk A → Type 0
Always R Q past (return a) = Q past a
Always R Q past (stop c carries) = Unit {0}
Always R Q past (report a b m) = Always R Q past m
Always R Q past (ask q f) = R past q × ((a : AnswerTo q) → Always R Q (record { asked = q; answer = a } ∷ past) (f a))

module _ (R : Past → Ask → Type 0) where
  pub always-bind : {A B : Type 0} (Q : Past → A → Type 0) (S : Past → B → Type 0) (past : Past) (m : Talk A)
      (f : A → Talk B)
      → Always R Q past m → ((p : Past) (a : A) → Q p a → Always R S p (f a)) → Always R S past (m >>= f)
  unfolding ◌>>=◌
  always-bind Q S past (return a) f h g = g past a h
  always-bind Q S past (stop c carries) f h g = tt
  always-bind Q S past (report a b m) f h g = always-bind Q S past m f h g
  always-bind Q S past (ask q m) f h g =
      (h.0, λ a. always-bind Q S (record { asked = q; answer = a } ∷ past) (m a) f (h.1 a) g)

  -- A loop, with an invariant I on the members that are left and the exchanges so far.
  pub always-each : (I : List ℕ → Past → Type 0) (f : ℕ → Talk (Unit {0}))
      → ((x : ℕ) (xs : List ℕ) (p : Past) → I (x ∷ xs) p → Always R (λ p' _. I xs p') p (f x))
      → (xs : List ℕ) (past : Past) → I xs past → Always R (λ p _. I [] p) past (each xs f)
  unfolding each
  always-each I f g [] past h = h
  always-each I f g (x ∷ xs) past h =
      always-bind (λ p _. I xs p) (λ p _. I [] p) past (f x) (λ _. each xs f) (g x xs past h)
      (λ p _ i. always-each I f g xs p i)

  pub always-refuse_if : {B : Type 0} (S : Past → B → Type 0) (past : Past) (b : Bool) (c : ℕ) (v : List ℕ) (k : Talk B)
      → (b ≡ false → Always R S past k) → Always R S past (refuse_if b c v >> k)
  unfolding refuse_if ◌>>=◌
  always-refuse_if S past true c v k h = tt
  always-refuse_if S past false c v k h = h refl

  pub always-test : (S : Past → Unit {0} → Type 0) (past : Past) (b : Bool) (c : ℕ) (v : List ℕ)
      → (b ≡ false → S past tt) → Always R S past (refuse_if b c v)
  unfolding refuse_if
  always-test S past true c v h = tt
  always-test S past false c v h = h refl

  -- Only an answer of status Ok goes on.
  pub always-transact : {B : Type 0} (S : Past → B → Type 0) (past : Past) (d : Demand) (f : List ℕ × List ℕ → Talk B)
      → R past (demand d)
      → ((payload image : List ℕ) → Always R S (met d (ok payload) image ∷ past) (f (payload, image)))
      → Always R S past (transact d >>= f)
  unfolding transact accepted ◌>>=◌
  always-transact S past d f r g = (r, λ a. go a.reply a.image)
    where
      go : (r : Reply) (image : List ℕ) → Always R S (met d r image ∷ past) (accepted r image >>= f)
      go (ok payload) image = g payload image
      go (device status) image = tt

  -- After any events, each request satisfied R when it was asked, and so does the one that is out. A value returned
  -- satisfies Q.
  pub play-kept : {A : Type 0} (Q : Past → A → Type 0) (m : Talk A) (es : List Event) (past : Past) → Always R Q past m
      → Kept R past
      → Kept R (play m es past).0 × Stands R Q (play m es past).0 (play m es past).1
  unfolding play
  play-kept Q (return a) es past h k = (k, h)
  play-kept Q (stop c carries) es past h k = (k, tt)
  play-kept Q (report a b m) es past h k = play-kept Q m es past h k
  play-kept Q (ask q f) [] past h k = (k, h.0)
  play-kept {A} Q (ask q f) (e ∷ es) past h k =
      go (read_event q e) (λ a. play-kept Q (f a) es (record { asked = q; answer = a } ∷ past) (h.1 a) (h.0, k))
    where
      Fine : Past × Stand A → Type 0
      Fine r = Kept R r.0 × Stands R Q r.0 r.1

      go : (r : Option (AnswerTo q))
          → ((a : AnswerTo q) → Fine (play (f a) es (record { asked = q; answer = a } ∷ past)))
          → Fine (on_some r (past, lost q) (λ a. play (f a) es (record { asked = q; answer = a } ∷ past)))
      go none more = (k, h.0)
      go (some a) more = more a

  -- A property of all requests asked, including the one that is out.
  pub all_asked : {A : Type 0} (Q : Past → A → Type 0) (P : Past → List Ask → Type 0) → P [] []
      → ((past : Past) (q : Ask) → R past q → P past (q ∷ asks past))
      → ((past : Past) (x : Exchange) → R past x.asked → P (x ∷ past) (asks (x ∷ past)))
      → (r : Past × Stand A) → Kept R r.0 × Stands R Q r.0 r.1 → P r.0 (everything r)
  all_asked Q P z f g (past, lost q) h = f past q h.1
  all_asked Q P z f g (past, pending q) h = f past q h.1
  all_asked Q P z f g ([], returned a) h = z
  all_asked Q P z f g ([], refused c carries) h = z
  all_asked Q P z f g (x ∷ past, returned a) h = g past x h.0.0
  all_asked Q P z f g (x ∷ past, refused c carries) h = g past x h.0.0

  pub each-asked : {A : Type 0} (Q : Past → A → Type 0) (P : Ask → Type 0) → ((past : Past) (q : Ask) → R past q → P q)
      → (r : Past × Stand A) → Kept R r.0 × Stands R Q r.0 r.1 → All P (everything r)
  each-asked {A} Q P f (past, s) (k, h) = go s h
    where
      before : (past : Past) → Kept R past → All P (asks past)
      before [] k = tt
      before (x ∷ past) k = (f past x.asked k.0, before past k.1)

      go : (s : Stand A) → Stands R Q past s → All P (everything (past, s))
      go (returned a) h = before past k
      go (refused c carries) h = before past k
      go (lost q) h = (f past q h, before past k)
      go (pending q) h = (f past q h, before past k)

pub bind_assoc : {A B C : Type 0} (m : Talk A) (f : A → Talk B) (g : B → Talk C)
    → m >>= f >>= g ≡ m >>= (λ a. f a >>= g)
unfolding ◌>>=◌
bind_assoc (return a) f g = refl
bind_assoc (stop c v) f g = refl
bind_assoc (report a b m) f g = λ i. report a b (bind_assoc m f g i)
bind_assoc (ask q m) f g = λ i. ask q (λ x. bind_assoc (m x) f g i)
