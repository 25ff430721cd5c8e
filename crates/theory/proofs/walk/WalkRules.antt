-- Rules to prove what holds of every way a walk can go: one for each form of conversation.
use Prim.Native.Nat.{ℕ, suc}
use mathlib.Core.Bool.{Bool, true, false, cond}
use mathlib.Core.Path.{◌≡◌, refl}
use Rattle.paper.specs.Hearing.{Prefix, Heard}
use Rattle.paper.specs.Walk.{Walk, return, stop, select, ◌>>=◌, long, ask, Wire, Ended, done, stopped, run}

-- Whatever is heard, the conversation, after k Selects, ends as Q says of its end and of the number of Selects by then.
abbrev pub Always : {A : Type 0} → (Ended A → ℕ → Type 0) → ℕ → Walk A → Type 0
Always Q k (return a) = Q (done a) k
Always Q k (stop c) = Q (stopped c) k
Always Q k (select p f) = (h : Heard) → Always Q (suc k) (f h)

pub always-run : {A : Type 0} (Q : Ended A → ℕ → Type 0) (wire : Wire) (k : ℕ) (w : Walk A) → Always Q k w
    → Q (run wire k w).0 (run wire k w).1
unfolding run
always-run Q wire k (return a) h = h
always-run Q wire k (stop c) h = h
always-run Q wire k (select p f) h = always-run Q wire (suc k) (f (wire k p)) (h (wire k p))

pub always-weaken : {A : Type 0} (Q R : Ended A → ℕ → Type 0) (k : ℕ) (w : Walk A) → Always Q k w
    → ((e : Ended A) (c : ℕ) → Q e c → R e c) → Always R k w
always-weaken Q R k (return a) h g = g (done a) k h
always-weaken Q R k (stop c) h g = g (stopped c) k h
always-weaken Q R k (select p f) h g = λ x. always-weaken Q R (suc k) (f x) (h x) g

pub always-bind : {A B : Type 0} (Q : Ended A → ℕ → Type 0) (R : Ended B → ℕ → Type 0) (k : ℕ) (m : Walk A)
    (f : A → Walk B) → Always Q k m
    → ((a : A) (c : ℕ) → Q (done a) c → Always R c (f a)) → ((r c : ℕ) → Q (stopped r) c → R (stopped r) c)
    → Always R k (m >>= f)
unfolding ◌>>=◌
always-bind Q R k (return a) f h g s = g a k h
always-bind Q R k (stop c) f h g s = s c k h
always-bind Q R k (select p m) f h g s = λ x. always-bind Q R (suc k) (m x) f (h x) g s

pub always-ask : {B : Type 0} (R : Ended B → ℕ → Type 0) (k : ℕ) (p : Prefix) (f : Heard → Walk B)
    → ((h : Heard) → long h ≡ false → Always R (suc k) (f h)) → R (stopped 14) (suc k) → Always R k (ask p >>= f)
unfolding ask ◌>>=◌
always-ask {B} R k p f g s = λ h. go h (long h) refl
  where
    go : (h : Heard) (b : Bool) → long h ≡ b → Always R (suc k) (cond b (stop 14) (return h) >>= f)
    go h true e = s
    go h false e = g h e
