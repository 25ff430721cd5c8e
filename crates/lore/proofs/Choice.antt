-- Choices by a test, from the fact that holds in a branch of the code: `search (ways, needs)`.
use mathlib.Core.Bool.{Bool, true, false, cond, ◌&&◌, false≢true}
use mathlib.Core.Path.{◌≡◌, refl, sym, ◌∙◌}
use borrow.Author.Tests.{lt-ltb, le-ltb, le-leb, lt-leb, eq-eqb, ne_eqb}
pub use Rattle.lore.proofs.CondNo.{cond_no}

pub cond_yes : {A : Type 0} (b : Bool) (x y r : A) → b ≡ true → r ≡ x → r ≡ cond b x y
cond_yes b x y r h e = rw h e

pub and_yes : (a b : Bool) → a ≡ true → b ≡ true → (a && b) ≡ true
and_yes a b h k = rw (h, k)

pub and-not-left : (a b : Bool) → a ≡ false → (a && b) ≡ false
and-not-left a b h = rw h

pub and-not-right : (a b : Bool) → b ≡ false → (a && b) ≡ false
and-not-right true b h = h
and-not-right false b h = refl

pub ruleset ways = (
  cond_yes,
  cond_no,
  and_yes,
  and-not-left,
  and-not-right,
  lt-ltb,
  le-ltb,
  le-leb,
  lt-leb,
  eq-eqb,
  ne_eqb,
)

-- What holds for both values holds for the one that a test chooses.
pub by-test : {A : Type 0} (P : A → Type 0) (b : Bool) {x y : A} → (b ≡ true → P x) → (b ≡ false → P y) → P (cond b x y)
by-test P true h k = h refl
by-test P false h k = k refl

pub either : {A : Type 0} (P : A → Type 0) (b : Bool) {x y : A} → P x → P y → P (cond b x y)
either P b h k = by-test P b (λ e. h) (λ e. k)

pub clash : {A : Type 0} (b : Bool) → b ≡ true → b ≡ false → A
clash b h k = absurd (false≢true (sym k ∙ h))

-- f at a value that is known to equal another: `search (at_value f, needs)`.
module _ {A B : Type 0} (f : A → B) where
  pub at_value : (x y : A) (r : B) → x ≡ y → r ≡ f y → r ≡ f x
  at_value x y r e h = rw e h
