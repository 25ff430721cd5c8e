-- Rules for a property that holds of each member of a list.
use Prim.Native.Nat.{ℕ, zero, suc}
use mathlib.Core.List.{List, [], ◌∷◌, ◌++◌}
use lib.ListN.{take}
use Rattle.paper.specs.Count.{All}

module _ {A : Type 0} where
  pub all-weaken : (P Q : A → Type 0) (xs : List A) → ((x : A) → P x → Q x) → All P xs → All Q xs
  all-weaken P Q [] f h = tt
  all-weaken P Q (x ∷ xs) f h = (f x h.0, all-weaken P Q xs f h.1)

  pub all_append : (P : A → Type 0) (xs ys : List A) → All P xs → All P ys → All P (xs ++ ys)
  all_append P [] ys h g = g
  all_append P (x ∷ xs) ys h g = (h.0, all_append P xs ys h.1 g)

  pub all_both : (P Q : A → Type 0) (xs : List A) → All P xs → All Q xs → All (λ x. P x × Q x) xs
  all_both P Q [] h g = tt
  all_both P Q (x ∷ xs) h g = ((h.0, g.0), all_both P Q xs h.1 g.1)

  pub all_take : (P : A → Type 0) (k : ℕ) (xs : List A) → All P xs → All P (take k xs)
  all_take P zero xs h = tt
  all_take P (suc k) [] h = tt
  all_take P (suc k) (x ∷ xs) h = (h.0, all_take P k xs h.1)

  pub all-last : (P : A → Type 0) (xs : List A) (a : A) → All P (xs ++ (a ∷ [])) → P a
  all-last P [] a h = h.0
  all-last P (x ∷ xs) a h = all-last P xs a h.1
