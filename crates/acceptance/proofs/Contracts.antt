-- Two statements about a call's own contract: that any two results it allows are equal, and that it is a given
-- equation.
use mathlib.Core.Path.{◌≡◌, sym, ◌∙◌}
use seplogic.Ra.Ura.{Ura}
use base.Logic.{SProp, ent}
use prog.Memory.{Memory}
use prog.Routine.{Routine}
use types.Logic.{Logic}
use contract.Lifetimes.{Lfts}
use contract.Monad.{Fun, conj, conj_l, conj_r, fact, fact_i, fact_use}
use denote.Triple.Entry.{Args, Res}
use denote.Triple.Clauses.{Ended, Clauses, Lasts, at_exit}

-- A function's contract: its signature, and its clauses over any resources, heap and memory.
pub record Contract : Type 3 where
  pub ended : Ended
  pub clauses : {M : Type 1} {𝓤 : Ura M} (𝓛 : Logic 𝓤) → (Memory → SProp 𝓤) → (Routine → Fun 𝓤)
      → Clauses 𝓤 ended

module _ (c : Contract) where
  abbrev pub Lifetimes : Type 0
  Lifetimes = Lfts c.ended.signature.lifetimes

  -- The arguments, the result, and the last value of each `&mut` argument: for a slice, its bytes.
  abbrev pub Given : Lifetimes → Type 0
  Given κs = Args c.ended.signature κs

  abbrev pub Result : Lifetimes → Type 0
  Result κs = Res c.ended.signature κs

  abbrev pub Last : (κs : Lifetimes) → Given κs → Type 0
  Last κs a = Lasts c.ended κs a

  -- For any arguments, any two results and last values for which the contract's `ensures` holds are the same.
  abbrev pub DeterminedBy : ((κs : Lifetimes) → Result κs → Result κs → Type 0) → Type 2
  DeterminedBy same =
      (M : Type 1) (𝓤 : Ura M) (𝓛 : Logic 𝓤) (mem : Memory → SProp 𝓤) (run : Routine → Fun 𝓤)
      (κs : Lifetimes) (a : Given κs)
      (g g' : (c.clauses 𝓛 mem run κs a).ghost) (r r' : Result κs) (w w' : Last κs a)
      → ent 𝓤
      (conj 𝓤 ((c.clauses 𝓛 mem run κs a).ensures g r (at_exit c.ended κs a w))
      ((c.clauses 𝓛 mem run κs a).ensures g' r' (at_exit c.ended κs a w')))
      (fact 𝓤 (same κs r r' × (w ≡ w')))

  abbrev pub Determined : Type 2
  Determined = DeterminedBy (λ κs r r'. r ≡ r')

  -- What the contract's `ensures` says about arguments, result and last values is exactly φ.
  abbrev pub Is : ((κs : Lifetimes) (a : Given κs) → Result κs → Last κs a → Type 0) → Type 2
  Is φ =
      (M : Type 1) (𝓤 : Ura M) (𝓛 : Logic 𝓤) (mem : Memory → SProp 𝓤) (run : Routine → Fun 𝓤)
      (κs : Lifetimes) (a : Given κs)
      (g : (c.clauses 𝓛 mem run κs a).ghost) (r : Result κs) (w : Last κs a)
      → (c.clauses 𝓛 mem run κs a).ensures g r (at_exit c.ended κs a w) ≡ fact 𝓤 (φ κs a r w)

-- Two results that are each equal to a third.
pub agree : {M : Type 1} (𝓤 : Ura M) {A : Type 0} (x y z : A) {φ : Type 0} → (x ≡ y → φ)
    → ent 𝓤 (conj 𝓤 (fact 𝓤 (x ≡ z)) (fact 𝓤 (y ≡ z))) (fact 𝓤 φ)
agree 𝓤 x y z {φ} h =
    fact_use 𝓤 (x ≡ z) (conj_l 𝓤 (fact 𝓤 (x ≡ z)) (fact 𝓤 (y ≡ z)))
    (λ e. fact_use 𝓤 (y ≡ z) (conj_r 𝓤 (fact 𝓤 (x ≡ z)) (fact 𝓤 (y ≡ z)))
    (λ f. fact_i 𝓤 φ (conj 𝓤 (fact 𝓤 (x ≡ z)) (fact 𝓤 (y ≡ z))) (h (e ∙ sym f))))

-- The arguments and their last values, by position.
abbrev pub first : {A B : Type 0} → A × B → A
first x = x.0

abbrev pub second : {A B C : Type 0} → A × (B × C) → B
second x = x.1.0

abbrev pub third : {A B C D : Type 0} → A × (B × (C × D)) → C
third x = x.1.1.0

abbrev pub fourth : {A B C D E : Type 0} → A × (B × (C × (D × E))) → D
fourth x = x.1.1.1.0

abbrev pub fifth : {A B C D E F : Type 0} → A × (B × (C × (D × (E × F)))) → E
fifth x = x.1.1.1.1.0
