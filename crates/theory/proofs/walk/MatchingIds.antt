-- The ids that match a prefix, and how they divide between its children.
use Prim.Native.Nat.{ℕ, suc, ◌+◌, ◌*◌, ◌≤◌, ◌<◌}
use mathlib.Core.Bool.{Bool, true, false, cond, true≢false}
use mathlib.Core.List.{List, [], ◌∷◌, ◌++◌}
use mathlib.Core.Path.{◌≡◌, refl, sym, ◌∙◌, ap, subst}
use native.Mathlib.Omega.{arith}
use lib.Dec.{ltb}
use lib.ListN.{drop, length, length-drop}
use borrow.Author.Tests.{ltb-false, ltb-true}
use Rattle.paper.specs.Count.{matching, All, count, sum_over}
use Rattle.paper.specs.Hearing.{Id, Prefix, bits_of, begins, matches}
use Rattle.paper.specs.Walk.{◌▹◌, insert}
use Rattle.paper.proofs.Bits.{bits-length}
use Rattle.theory.specs.PrefixFree.{Unlike, Separate}
use Rattle.theory.proofs.walk.PrefixMatches.{begins-front, begins-child, begins-splits, begins-whole}
use Rattle.theory.proofs.walk.SortedIds.{insert_all, insert_all-insert}

pub matching-yes : (q : Prefix) (x : Id) (xs : List Id) → matches q x ≡ true → matching q (x ∷ xs) ≡ x ∷ matching q xs
unfolding matching
matching-yes q x xs e = rw e

pub matching-not : (q : Prefix) (x : Id) (xs : List Id) → matches q x ≡ false → matching q (x ∷ xs) ≡ matching q xs
unfolding matching
matching-not q x xs e = rw e

pub matching-matching : (q r : Prefix) (xs : List Id) → matching (q ++ r) (matching q xs) ≡ matching (q ++ r) xs
unfolding matching
matching-matching q r [] = refl
matching-matching q r (x ∷ xs) = go (matching-matching q r xs) (matches q x) refl (matches (q ++ r) x) refl
  where
    go : matching (q ++ r) (matching q xs) ≡ matching (q ++ r) xs → (a : Bool) → matches q x ≡ a → (b : Bool)
        → matches (q ++ r) x ≡ b → matching (q ++ r) (matching q (x ∷ xs)) ≡ matching (q ++ r) (x ∷ xs)
    go ih true e b f = ap (matching (q ++ r)) (matching-yes q x xs e) ∙ ap (λ l. cond (matches (q ++ r) x) (x ∷ l) l) ih
    go ih false e true f = absurd (true≢false (sym (begins-front q r (bits_of x) f) ∙ e))
    go ih false e false f = ap (matching (q ++ r)) (matching-not q x xs e) ∙ ih ∙ sym (matching-not (q ++ r) x xs f)

-- For a prefix that extends q, only the ids that match q matter.
pub matching-extends : (q r : Prefix) (xs : List Id) → begins q r ≡ true → matching r (matching q xs) ≡ matching r xs
matching-extends q r xs e = rw (begins-splits q r e) at (matching-matching q (drop (length q) r) xs)

module _ (q : Prefix) where
  pub all-matches : (xs : List Id) → All (λ x. matches q x ≡ true) (matching q xs)
  unfolding matching
  all-matches [] = tt
  all-matches (x ∷ xs) = go (all-matches xs) (matches q x) refl
    where
      go : All (λ y. matches q y ≡ true) (matching q xs) → (b : Bool) → matches q x ≡ b
          → All (λ y. matches q y ≡ true) (cond b (x ∷ matching q xs) (matching q xs))
      go ih true e = (e, ih)
      go ih false e = ih

  pub all-matching : (P : Id → Type 0) (xs : List Id) → All P xs → All P (matching q xs)
  unfolding matching
  all-matching P [] h = tt
  all-matching P (x ∷ xs) h = go (all-matching P xs h.1) (matches q x)
    where
      go : All P (matching q xs) → (b : Bool) → All P (cond b (x ∷ matching q xs) (matching q xs))
      go ih true = (h.0, ih)
      go ih false = ih

  separate-matching : (xs : List Id) → Separate xs → Separate (matching q xs)
  unfolding matching
  separate-matching [] h = tt
  separate-matching (x ∷ xs) h = go (separate-matching xs h.1) (matches q x)
    where
      go : Separate (matching q xs) → (b : Bool) → Separate (cond b (x ∷ matching q xs) (matching q xs))
      go ih true = (all-matching (Unlike x) xs h.0, ih)
      go ih false = ih

pub length-matching : (q : Prefix) (xs : List Id) → length (matching q xs) ≤ length xs
unfolding matching
length-matching q [] = omega arith
length-matching q (x ∷ xs) = go (length-matching q xs) (matches q x)
  where
    go : length (matching q xs) ≤ length xs → (b : Bool)
        → length (cond b (x ∷ matching q xs) (matching q xs)) ≤ suc (length xs)
    go ih true = omega arith
    go ih false = omega arith

pub count-child : (ids : List Id) (q : Prefix) (b : Bool) → count ids (q ▹ b) ≤ count ids q
count-child ids q b = rw (← matching-matching q (b ∷ []) ids) (length-matching (q ▹ b) (matching q ids))

-- What the walk relies on about the ids that match a prefix.
pub record Under (q : Prefix) (xs : List Id) : Type 0 where
  pub matched : All (λ x. matches q x ≡ true) xs
  pub separate : Separate xs
  pub short : All (λ x. length x ≤ 16) xs

pub under-child : (q r : Prefix) (ids : List Id) → Under q (matching q ids) → Under (q ++ r) (matching (q ++ r) ids)
under-child q r ids u = subst (Under (q ++ r)) (matching-matching q r ids) (record {
  matched = all-matches (q ++ r) (matching q ids);
  separate = separate-matching (q ++ r) (matching q ids) u.separate;
  short = all-matching (q ++ r) _ (matching q ids) u.short;
})

-- An id that matches a prefix and has more bits matches exactly one child of the prefix.
pub data Side (q : Prefix) (x : Id) : Type 0 where
  zero-side : matches (q ▹ false) x ≡ true → matches (q ▹ true) x ≡ false → Side q x
  one_side : matches (q ▹ false) x ≡ false → matches (q ▹ true) x ≡ true → Side q x

side : (q : Prefix) (x : Id) → length q < 8 * length x → matches q x ≡ true → Side q x
side q x h m = go (drop (length q) (bits_of x)) refl
  where
    go : (rest : List Bool) → drop (length q) (bits_of x) ≡ rest → Side q x
    go [] e = absurd (omega (arith, ap length e, length-drop (length q) (bits_of x), bits-length x))
    go (false ∷ rest) e = zero-side (begins-child q (bits_of x) false rest m e false)
        (begins-child q (bits_of x) false rest m e true)
    go (true ∷ rest) e = one_side (begins-child q (bits_of x) true rest m e false)
        (begins-child q (bits_of x) true rest m e true)

-- A prefix that matches two ids, the first of which is no prefix of the second, is shorter than the first.
shorter : (q : Prefix) (x y : Id) → matches q x ≡ true → matches q y ≡ true → matches (bits_of x) y ≡ false
    → length q < 8 * length x
shorter q x y m n u = go (ltb (length q) (8 * length x)) refl
  where
    go : (b : Bool) → ltb (length q) (8 * length x) ≡ b → length q < 8 * length x
    go true e = ltb-true _ _ e
    go false e =
        let whole : q ≡ bits_of x = begins-whole q (bits_of x) m
        (omega (arith, ltb-false (length q) (8 * length x) e, bits-length x)) in
        absurd (true≢false (sym n ∙ ap (λ r. matches r y) whole ∙ u))

pub two-shorter : (q : Prefix) (x y : Id) (zs : List Id) → Under q (x ∷ y ∷ zs) → length q < 8 * length x
two-shorter q x y zs u = shorter q x y u.matched.0 u.matched.1.0 u.separate.0.0.0

pub two-sides : (q : Prefix) (x y : Id) (zs : List Id) → Under q (x ∷ y ∷ zs) → All (Side q) (x ∷ y ∷ zs)
two-sides q x y zs u = (
  side q x (two-shorter q x y zs u) u.matched.0,
  others (y ∷ zs) u.matched.1 u.separate.0,
)
  where
    others : (ys : List Id) → All (λ y. matches q y ≡ true) ys → All (Unlike x) ys → All (Side q) ys
    others [] m s = tt
    others (y ∷ ys) m s = (side q y (shorter q y x m.0 u.matched.0 s.0.1) m.0, others ys m.1 s.1)

module _ (q : Prefix) where
  pub part_length : (xs : List Id) → All (Side q) xs
      → length (matching (q ▹ false) xs) + length (matching (q ▹ true) xs) ≡ length xs
  unfolding matching
  part_length [] h = refl
  part_length (x ∷ xs) h = go (part_length xs h.1) h.0
    where
      go : length (matching (q ▹ false) xs) + length (matching (q ▹ true) xs) ≡ length xs → Side q x
          → length (matching (q ▹ false) (x ∷ xs)) + length (matching (q ▹ true) (x ∷ xs)) ≡ suc (length xs)
      go ih (zero-side e f) = rw (matching-yes (q ▹ false) x xs e, matching-not (q ▹ true) x xs f) (omega arith)
      go ih (one_side e f) = rw (matching-not (q ▹ false) x xs e, matching-yes (q ▹ true) x xs f) (omega arith)

  pub part-sum : (f : Id → ℕ) (xs : List Id) → All (Side q) xs
      → sum_over f (matching (q ▹ false) xs) + sum_over f (matching (q ▹ true) xs) ≡ sum_over f xs
  unfolding matching sum_over
  part-sum f [] h = refl
  part-sum f (x ∷ xs) h = go (part-sum f xs h.1) h.0
    where
      go : sum_over f (matching (q ▹ false) xs) + sum_over f (matching (q ▹ true) xs) ≡ sum_over f xs → Side q x
          → sum_over f (matching (q ▹ false) (x ∷ xs)) + sum_over f (matching (q ▹ true) (x ∷ xs)) ≡ f x + sum_over f xs
      go ih (zero-side e g) = rw (matching-yes (q ▹ false) x xs e, matching-not (q ▹ true) x xs g) (omega arith)
      go ih (one_side e g) = rw (matching-not (q ▹ false) x xs e, matching-yes (q ▹ true) x xs g) (omega arith)

  pub part-insert : (xs l : List Id) → All (Side q) xs
      → insert_all (matching (q ▹ true) xs) (insert_all (matching (q ▹ false) xs) l) ≡ insert_all xs l
  unfolding matching insert_all
  part-insert [] l h = refl
  part-insert (x ∷ xs) l h = go (part-insert xs l h.1) h.0
    where
      go : insert_all (matching (q ▹ true) xs) (insert_all (matching (q ▹ false) xs) l) ≡ insert_all xs l → Side q x
          → insert_all (matching (q ▹ true) (x ∷ xs)) (insert_all (matching (q ▹ false) (x ∷ xs)) l)
          ≡ insert x (insert_all xs l)
      go ih (zero-side e g) = rw (matching-yes (q ▹ false) x xs e, matching-not (q ▹ true) x xs g)
          (insert_all-insert x (matching (q ▹ true) xs) (insert_all (matching (q ▹ false) xs) l) ∙ ap (insert x) ih)
      go ih (one_side e g) = rw (matching-not (q ▹ false) x xs e, matching-yes (q ▹ true) x xs g) (ap (insert x) ih)
