-- The numbers a, a + e, a + 2e .. below c: how many there are, the first one, and those after it.
use Prim.Native.Nat.{ℕ, suc, ◌+◌, ◌-◌, ◌/◌, ◌<◌, ◌≤◌}
use mathlib.Core.List.{[], ◌∷◌}
use mathlib.Core.Path.{◌≡◌, sym, ◌∙◌, ap}
use native.Mathlib.Decide.{dec_lt}
use native.Mathlib.Nat.{div-zero, div-eq_of_lt, add-div_right}
use native.Mathlib.Omega.{arith}
use Rattle.paper.specs.Answers.{steps, apart, below}

pub steps-none : (e : ℕ) → steps e 0 ≡ 0
unfolding steps
steps-none e = go (dec_lt 0 e)
  where
    go : Dec (0 < e) → (0 + (e - 1)) / e ≡ 0
    go (yes h) = div-eq_of_lt (omega arith)
    go (no h) = let none : e ≡ 0 = omega arith in rw none (div-zero (0 + (0 - 1)))

pub steps-more : (e x : ℕ) → 0 < e → 0 < x → steps e x ≡ suc (steps e (x - e))
unfolding steps
steps-more e x h k = ap (λ (n : ℕ). n / e) whole ∙ add-div_right (x - 1) h ∙ one ((x - 1) / e) ∙ ap suc (go (dec_lt x e))
  where
    whole : x + (e - 1) ≡ x - 1 + e
    whole = omega arith

    one : (n : ℕ) → n + 1 ≡ suc n
    one n = omega arith

    go : Dec (x < e) → (x - 1) / e ≡ (x - e + (e - 1)) / e
    go (yes l) = div-eq_of_lt (omega arith) ∙ sym (div-eq_of_lt (omega arith))
    go (no l) = let same : x - 1 ≡ x - e + (e - 1) = omega arith in ap (λ (n : ℕ). n / e) same

pub below-nil : (e c a : ℕ) → c ≤ a → below e c a ≡ []
unfolding below apart
below-nil e c a h = let none : c - a ≡ 0 = omega arith in rw (none, steps-none e)

pub below-still : (c a : ℕ) → below 0 c a ≡ []
unfolding below apart steps
below-still c a = rw (div-zero (c - a + (0 - 1)))

pub below-cons : (e c a : ℕ) → 0 < e → a < c → below e c a ≡ a ∷ below e c (a + e)
unfolding below apart
below-cons e c a h k = rw (steps-more e (c - a) h (omega arith)) (ap (λ (x : ℕ). a ∷ apart e (steps e x) (a + e)) less)
  where
    less : c - a - e ≡ c - (a + e)
    less = omega arith
