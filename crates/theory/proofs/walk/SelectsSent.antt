-- Which Selects a discovery sends before its deselect; on two wires that agree on these it ends the same way.
use Prim.Native.Nat.{ℕ, zero, suc, ◌+◌, ◌-◌, ◌≤◌, ◌<◌}
use mathlib.Core.Bool.{Bool, true, false, not, cond}
use mathlib.Core.List.{List, [], ◌∷◌}
use mathlib.Core.Path.{◌≡◌, refl, ◌∙◌, ap}
use native.Mathlib.Omega.{arith}
use lib.Dec.{ltb}
use lib.ListN.{drop, length, length-append, length-drop}
use borrow.Author.Tests.{ltb-false}
use Rattle.paper.specs.Count.{limit}
use Rattle.paper.specs.Hearing.{Id, Prefix, bits_of, begins, matches, Heard, nothing, one, unaddressed, garble}
use Rattle.paper.specs.Walk.{◌▹◌, Walk, return, stop, select, ◌>>=◌, long, ask, is_nothing, confirm_rest, confirm, keep}
use Rattle.paper.specs.Walk.{judge, walk, discover, Wire, run}
use Rattle.paper.proofs.Bits.{bits-length}
use Rattle.lore.proofs.Choice.{by-test, either}
use Rattle.theory.proofs.walk.WalkRules.{Always, always-run}
use Rattle.theory.proofs.walk.SelectsBounded.{Within, discover-within}
use Rattle.theory.proofs.walk.PrefixMatches.{begins-refl, begins-more}
use Rattle.theory.proofs.walk.MachineIsWalk.{run-later}
use Rattle.theory.proofs.walk.RunEquations.{down, walk-judge}

-- The prefix selected satisfies P; or what is heard makes no difference, as for the deselect.
pub data Heeds {A : Type 0} (P : Prefix → Type 0) (q : Prefix) (f : Heard → Walk A) : Type 0 where
  asks : P q → Heeds P q f
  ignores : ((g h : Heard) → f g ≡ f h) → Heeds P q f

-- Whatever is heard, this holds of each Select of the conversation.
abbrev pub Sends : {A : Type 0} → (Prefix → Type 0) → Walk A → Type 0
Sends P (return a) = Unit {0}
Sends P (stop c) = Unit {0}
Sends P (select q f) = Heeds P q f × ((h : Heard) → Sends P (f h))

module _ (P : Prefix → Type 0) where
  heeds-bind : {A B : Type 0} (q : Prefix) (m : Heard → Walk A) (f : A → Walk B) → Heeds P q m
      → Heeds P q (λ h. m h >>= f)
  heeds-bind q m f (asks p) = asks p
  heeds-bind q m f (ignores e) = ignores (λ g h. ap (λ w. w >>= f) (e g h))

  sends-bind : {A B : Type 0} (m : Walk A) (f : A → Walk B) → Sends P m → ((a : A) → Sends P (f a)) → Sends P (m >>= f)
  unfolding ◌>>=◌
  sends-bind (return a) f s g = g a
  sends-bind (stop c) f s g = tt
  sends-bind (select q m) f s g = (heeds-bind q m f s.0, λ h. sends-bind (m h) f (s.1 h) g)

  sends-ask : {B : Type 0} (q : Prefix) (f : Heard → Walk B) → P q → ((h : Heard) → long h ≡ false → Sends P (f h))
      → Sends P (ask q >>= f)
  unfolding ask ◌>>=◌
  sends-ask {B} q f p g = (asks p, λ h. by-test (λ (w : Walk Heard). Sends P (w >>= f)) (long h) (λ e. tt) (g h))

  sends-keep : (ids : List Id) (x : Id) → Sends P (keep ids x)
  unfolding keep
  sends-keep ids x = either (Sends P) (ltb (length ids) 64) tt tt

  -- Two wires agree on the prefixes that satisfy P: a conversation of at most n Selects runs alike on both.
  alike-run : {A : Type 0} (n : ℕ) (v w : Wire) → ((k : ℕ) (q : Prefix) → k < n → P q → v k q ≡ w k q)
      → (k : ℕ) (m : Walk A) → Sends P m → Always (Within n) k m
      → run v k m ≡ run w k m
  unfolding run Within
  alike-run n v w h k (return a) s b = refl
  alike-run n v w h k (stop c) s b = refl
  alike-run n v w h k (select q f) s b =
      ap (run v (suc k)) (same s.0) ∙ alike-run n v w h (suc k) (f (w k q)) (s.1 (w k q)) (b (w k q))
    where
      before : k < n
      before = omega (arith, run-later w (suc k) (f (w k q)), always-run (Within n) w (suc k) (f (w k q)) (b (w k q)))

      same : Heeds P q f → f (v k q) ≡ f (w k q)
      same (asks p) = ap f (h k q before p)
      same (ignores e) = e (v k q) (w k q)

module _ (pre : Prefix) where
  -- A prefix that extends the given one, of at most 128 bits.
  abbrev Extends : Prefix → Type 0
  Extends q = (begins pre q ≡ true) × (length q ≤ 128)

  child : (q : Prefix) (b : Bool) → begins pre q ≡ true → length q < 128 → Extends (q ▹ b)
  child q b e l = (begins-more pre q (b ∷ []) e, omega (arith, length-append q (b ∷ [])))

  confirm-sends : (q : Prefix) (x : Id) → begins pre q ≡ true → long (one x) ≡ false → Sends Extends (confirm q x)
  unfolding confirm confirm_rest long
  confirm-sends q x e short = either (Sends Extends) (matches q x) (rest (drop (length q) (bits_of x)) refl) tt
    where
      rest : (bits : List Bool) → drop (length q) (bits_of x) ≡ bits → Sends Extends (confirm_rest q x bits)
      rest [] d = tt
      rest (b ∷ bits) d =
          let l : length q < 128 = omega
          (arith, ap length d, length-drop (length q) (bits_of x), bits-length x, ltb-false 16 (length x) short) in
          sends-ask Extends (q ▹ b) _ (child q b e l)
          (λ g m. sends-ask Extends (q ▹ not b) _ (child q (not b) e l) (λ h n. tt))

  judge-sends : (q : Prefix) (ids : List Id) (h : Heard) (below : Walk (List Id)) → begins pre q ≡ true
      → long h ≡ false → Sends Extends below
      → Sends Extends (judge q ids h below)
  unfolding judge
  judge-sends q ids nothing below e short s = tt
  judge-sends q ids (one x) below e short s =
      sends-bind Extends (confirm q x) _ (confirm-sends q x e short)
      (λ held. either (Sends Extends) held (sends-keep Extends ids x) s)
  judge-sends q ids unaddressed below e short s = tt
  judge-sends q ids garble below e short s = s

  abbrev Walks : ℕ → Type 0
  Walks n = (q : Prefix) (ids : List Id) (h : Heard) → length q + n ≡ 128 → begins pre q ≡ true → long h ≡ false
      → Sends Extends (walk n q ids h)

  down-sends : (n : ℕ) → Walks n → (q : Prefix) (ids : List Id) → length q + suc n ≡ 128 → begins pre q ≡ true
      → Sends Extends (down (suc n) q ids)
  unfolding down long ◌>>=◌
  down-sends n ih q ids len e =
      sends-ask Extends (q ▹ false) _ (child q false e (omega arith))
      (λ z short. sends-bind Extends (walk n (q ▹ false) ids z) _ (goes false ids z short)
      (λ js. second js (is_nothing z)))
    where
      goes : (b : Bool) (js : List Id) (h : Heard) → long h ≡ false → Sends Extends (walk n (q ▹ b) js h)
      goes b js h short = ih (q ▹ b) js h (omega (arith, length-append q (b ∷ [])))
          (child q b e (omega arith)).0 short

      second : (js : List Id) (silent : Bool)
          → Sends Extends (cond silent (return garble) (ask (q ▹ true)) >>= λ o. walk n (q ▹ true) js o)
      second js true = goes true js garble refl
      second js false = sends-ask Extends (q ▹ true) _ (child q true e (omega arith)) (goes true js)

  walk-sends : (n : ℕ) → Walks n
  unfolding down
  walk-sends zero q ids h len e short = rw (walk-judge zero q ids h) (judge-sends q ids h (stop 12) e short tt)
  walk-sends (suc n) q ids h len e short =
      rw (walk-judge (suc n) q ids h) (judge-sends q ids h _ e short (down-sends n (walk-sends n) q ids len e))

  pub discover-sends : length pre ≤ 128 → Sends Extends (discover pre)
  unfolding discover
  discover-sends le = sends-ask Extends pre _ (begins-refl pre, le) (λ h short.
      sends-bind Extends (walk (128 - length pre) pre [] h) _
      (walk-sends (128 - length pre) pre [] h (omega arith) (begins-refl pre) short)
      (λ ids. (ignores (λ f g. refl), λ g. tt)))

-- The two wires agree on every Select that a discovery under this prefix can send before its deselect.
abbrev pub Alike : Wire → Wire → Prefix → Type 0
Alike v w pre = (k : ℕ) (q : Prefix) → k < limit pre → begins pre q ≡ true → length q ≤ 128 → v k q ≡ w k q

pub discover-alike : (v w : Wire) (pre : Prefix) → length pre ≤ 128 → Alike v w pre
    → run v 0 (discover pre) ≡ run w 0 (discover pre)
discover-alike v w pre le h =
    alike-run (Extends pre) (limit pre) v w (λ k q l e. h k q l e.0 e.1) 0 (discover pre) (discover-sends pre le)
    (discover-within pre)
