-- The order of ids is a total order.
use Prim.Native.Nat.{ℕ, ◌<◌}
use mathlib.Core.Bool.{Bool, true, false, true≢false, false≢true}
use mathlib.Core.List.{[], ◌∷◌}
use mathlib.Core.Path.{◌≡◌, refl, sym, ◌∙◌}
use native.Mathlib.Omega.{arith}
use lib.Dec.{ltb}
use borrow.Author.Tests.{ltb-true, ltb-false, lt-ltb, le-ltb, eq-eqb, ne_eqb}
use Rattle.paper.specs.Hearing.{Id, before}

data Tri (x y : ℕ) : Type 0 where
  less : x < y → Tri x y
  same : x ≡ y → Tri x y
  more : y < x → Tri x y

tri : (x y : ℕ) → Tri x y
tri x y = go (ltb x y) refl (ltb y x) refl
  where
    go : (b : Bool) → ltb x y ≡ b → (c : Bool) → ltb y x ≡ c → Tri x y
    go true e c f = less (ltb-true x y e)
    go false e true f = more (ltb-true y x f)
    go false e false f = let h = ltb-false x y e in let g = ltb-false y x f in same (omega arith)

module _ (x y : ℕ) (xs ys : Id) where
  before-less : x < y → before (x ∷ xs) (y ∷ ys) ≡ true
  unfolding before
  before-less h = rw (lt-ltb x y h)

  before_same : x ≡ y → before (x ∷ xs) (y ∷ ys) ≡ before xs ys
  unfolding before
  before_same h = rw (le-ltb x y (omega arith), eq-eqb x y h)

  before_more : y < x → before (x ∷ xs) (y ∷ ys) ≡ false
  unfolding before
  before_more h = rw (le-ltb x y (omega arith), ne_eqb x y (λ e. omega arith))

pub before-refl : (x : Id) → before x x ≡ true
unfolding before
before-refl [] = refl
before-refl (x ∷ xs) = before_same x x xs xs refl ∙ before-refl xs

pub before-total : (x y : Id) → before x y ≡ false → before y x ≡ true
unfolding before
before-total [] ys e = absurd (true≢false e)
before-total (x ∷ xs) [] e = refl
before-total (x ∷ xs) (y ∷ ys) e = go (before-total xs ys) (tri x y)
  where
    go : (before xs ys ≡ false → before ys xs ≡ true) → Tri x y → before (y ∷ ys) (x ∷ xs) ≡ true
    go ih (less h) = absurd (true≢false (sym (before-less x y xs ys h) ∙ e))
    go ih (same h) = before_same y x ys xs (sym h) ∙ ih (sym (before_same x y xs ys h) ∙ e)
    go ih (more h) = before-less y x ys xs h

pub before-antisym : (x y : Id) → before x y ≡ true → before y x ≡ true → x ≡ y
unfolding before
before-antisym [] [] e f = refl
before-antisym [] (y ∷ ys) e f = absurd (false≢true f)
before-antisym (x ∷ xs) [] e f = absurd (false≢true e)
before-antisym (x ∷ xs) (y ∷ ys) e f = go (before-antisym xs ys) (tri x y)
  where
    go : (before xs ys ≡ true → before ys xs ≡ true → xs ≡ ys) → Tri x y → x ∷ xs ≡ y ∷ ys
    go ih (less h) = absurd (false≢true (sym (before_more y x ys xs h) ∙ f))
    go ih (same h) = let r = ih (sym (before_same x y xs ys h) ∙ e) (sym (before_same y x ys xs (sym h)) ∙ f) in cc
    go ih (more h) = absurd (false≢true (sym (before_more x y xs ys h) ∙ e))

pub before-trans : (x y z : Id) → before x y ≡ true → before y z ≡ true → before x z ≡ true
unfolding before
before-trans [] y z e f = refl
before-trans (x ∷ xs) [] z e f = absurd (false≢true e)
before-trans (x ∷ xs) (y ∷ ys) [] e f = absurd (false≢true f)
before-trans (x ∷ xs) (y ∷ ys) (z ∷ zs) e f = go (before-trans xs ys zs) (tri x y) (tri y z)
  where
    go : (before xs ys ≡ true → before ys zs ≡ true → before xs zs ≡ true) → Tri x y → Tri y z
        → before (x ∷ xs) (z ∷ zs) ≡ true
    go ih (less h) (less g) = before-less x z xs zs (omega arith)
    go ih (less h) (same g) = before-less x z xs zs (omega arith)
    go ih (same h) (less g) = before-less x z xs zs (omega arith)
    go ih (same h) (same g) = before_same x z xs zs (h ∙ g)
        ∙ ih (sym (before_same x y xs ys h) ∙ e) (sym (before_same y z ys zs g) ∙ f)
    go ih (more h) t = absurd (false≢true (sym (before_more x y xs ys h) ∙ e))
    go ih (less h) (more g) = absurd (false≢true (sym (before_more y z ys zs g) ∙ f))
    go ih (same h) (more g) = absurd (false≢true (sym (before_more y z ys zs g) ∙ f))
