-- Sorting ids: the order of insertion does not matter, members and length are kept, and the result is in order.
use Prim.Native.Nat.{suc}
use mathlib.Core.Bool.{Bool, true, false, cond, true≢false}
use mathlib.Core.List.{List, [], ◌∷◌, ◌++◌}
use mathlib.Core.Path.{◌≡◌, refl, sym, ◌∙◌, ap}
use lib.ListN.{length}
use Rattle.paper.specs.Count.{All}
use Rattle.paper.specs.Hearing.{Id, before}
use Rattle.paper.specs.Walk.{insert, sort}
use Rattle.theory.specs.PrefixFree.{Unlike, Separate, Sorted}
use Rattle.theory.proofs.EachMember.{all-weaken}
use Rattle.theory.proofs.walk.IdOrder.{before-total, before-antisym, before-trans}

insert-here : (x y : Id) (l : List Id) → before x y ≡ true → insert x (y ∷ l) ≡ x ∷ y ∷ l
unfolding insert
insert-here x y l e = rw e

insert-past : (x y : Id) (l : List Id) → before x y ≡ false → insert x (y ∷ l) ≡ y ∷ insert x l
unfolding insert
insert-past x y l e = rw e

-- Inserting two ids that both come before all of l.
pair-front : (x y : Id) (l : List Id) → insert x l ≡ x ∷ l → insert y l ≡ y ∷ l
    → insert x (insert y l) ≡ insert y (insert x l)
pair-front x y l e f = rw (e, f) (go (before x y) refl (before y x) refl)
  where
    go : (a : Bool) → before x y ≡ a → (b : Bool) → before y x ≡ b → insert x (y ∷ l) ≡ insert y (x ∷ l)
    go true a true b = ap (λ z. insert z (y ∷ l)) (before-antisym x y a b)
        ∙ ap (λ z. insert y (z ∷ l)) (sym (before-antisym x y a b))
    go true a false b = insert-here x y l a ∙ ap (x ∷◌) (sym f) ∙ sym (insert-past y x l b)
    go false a true b = insert-past x y l a ∙ ap (y ∷◌) e ∙ sym (insert-here y x l b)
    go false a false b = absurd (true≢false (sym (before-total x y a) ∙ b))

pub insert_comm : (x y : Id) (l : List Id) → insert x (insert y l) ≡ insert y (insert x l)
unfolding insert
insert_comm x y [] = pair-front x y [] refl refl
insert_comm x y (z ∷ l) = go (insert_comm x y l) (before x z) refl (before y z) refl
  where
    late : (x y : Id) → before x z ≡ true → before y z ≡ false
        → insert x (insert y (z ∷ l)) ≡ insert y (insert x (z ∷ l))
    late x y e f =
        ap (insert x) (insert-past y z l f) ∙ insert-here x z (insert y l) e ∙ ap (x ∷◌) (sym (insert-past y z l f))
        ∙ sym (insert-past y x (z ∷ l) (not-before (before y x) refl)) ∙ ap (insert y) (sym (insert-here x z l e))
      where
        not-before : (b : Bool) → before y x ≡ b → before y x ≡ false
        not-before true g = absurd (true≢false (sym (before-trans y x z g e) ∙ f))
        not-before false g = g

    go : insert x (insert y l) ≡ insert y (insert x l) → (a : Bool) → before x z ≡ a → (b : Bool) → before y z ≡ b
        → insert x (insert y (z ∷ l)) ≡ insert y (insert x (z ∷ l))
    go ih true e true f = pair-front x y (z ∷ l) (insert-here x z l e) (insert-here y z l f)
    go ih true e false f = late x y e f
    go ih false e true f = sym (late y x f e)
    go ih false e false f = ap (insert x) (insert-past y z l f) ∙ insert-past x z (insert y l) e ∙ ap (z ∷◌) ih
        ∙ sym (insert-past y z (insert x l) f)
        ∙ ap (insert y) (sym (insert-past x z l e))

-- All members of a list, inserted into another list.
unfoldable pub insert_all : List Id → List Id → List Id
insert_all [] l = l
insert_all (x ∷ xs) l = insert x (insert_all xs l)

pub insert_all-insert : (x : Id) (xs l : List Id) → insert_all xs (insert x l) ≡ insert x (insert_all xs l)
unfolding insert_all
insert_all-insert x [] l = refl
insert_all-insert x (y ∷ xs) l = ap (insert y) (insert_all-insert x xs l) ∙ insert_comm y x (insert_all xs l)

pub sort-snoc : (ids : List Id) (x : Id) → sort (ids ++ (x ∷ [])) ≡ insert x (sort ids)
unfolding sort
sort-snoc [] x = refl
sort-snoc (y ∷ ids) x = ap (insert y) (sort-snoc ids x) ∙ insert_comm y x (sort ids)

pub sort-insert_all : (ids : List Id) → sort ids ≡ insert_all ids []
unfolding sort insert_all
sort-insert_all [] = refl
sort-insert_all (x ∷ ids) = ap (insert x) (sort-insert_all ids)

module _ (P : Id → Type 0) where
  pub insert-all : (x : Id) (xs : List Id) → P x → All P xs → All P (insert x xs)
  unfolding insert
  insert-all x [] p h = (p, tt)
  insert-all x (y ∷ ys) p h = go (insert-all x ys p h.1) (before x y)
    where
      go : All P (insert x ys) → (b : Bool) → All P (cond b (x ∷ y ∷ ys) (y ∷ insert x ys))
      go ih true = (p, h)
      go ih false = (h.0, ih)

  pub sort-all : (xs : List Id) → All P xs → All P (sort xs)
  unfolding sort
  sort-all [] h = tt
  sort-all (x ∷ xs) h = insert-all x (sort xs) h.0 (sort-all xs h.1)

insert-length : (x : Id) (xs : List Id) → length (insert x xs) ≡ suc (length xs)
unfolding insert
insert-length x [] = refl
insert-length x (y ∷ ys) = go (insert-length x ys) (before x y)
  where
    go : length (insert x ys) ≡ suc (length ys) → (b : Bool)
        → length (cond b (x ∷ y ∷ ys) (y ∷ insert x ys)) ≡ suc (suc (length ys))
    go ih true = refl
    go ih false = ap suc ih

pub sort-length : (xs : List Id) → length (sort xs) ≡ length xs
unfolding sort
sort-length [] = refl
sort-length (x ∷ xs) = insert-length x (sort xs) ∙ ap suc (sort-length xs)

insert-sorted : (x : Id) (xs : List Id) → Sorted xs → Sorted (insert x xs)
unfolding insert
insert-sorted x [] h = (tt, tt)
insert-sorted x (y ∷ ys) h = go (insert-sorted x ys h.1) (before x y) refl
  where
    go : Sorted (insert x ys) → (b : Bool) → before x y ≡ b → Sorted (cond b (x ∷ y ∷ ys) (y ∷ insert x ys))
    go ih true e = ((e, all-weaken _ _ ys (λ z. before-trans x y z e) h.0), h)
    go ih false e = (insert-all (λ z. before y z ≡ true) x ys (before-total x y e) h.0, ih)

pub sort_sorted : (xs : List Id) → Sorted (sort xs)
unfolding sort
sort_sorted [] = tt
sort_sorted (x ∷ xs) = insert-sorted x (sort xs) (sort_sorted xs)

insert-separate : (x : Id) (xs : List Id) → All (Unlike x) xs → Separate xs → Separate (insert x xs)
unfolding insert
insert-separate x [] u h = (tt, tt)
insert-separate x (y ∷ ys) u h = go (insert-separate x ys u.1 h.1) (before x y)
  where
    go : Separate (insert x ys) → (b : Bool) → Separate (cond b (x ∷ y ∷ ys) (y ∷ insert x ys))
    go ih true = (u, h)
    go ih false = (insert-all (Unlike y) x ys (u.0.1, u.0.0) h.0, ih)

pub sort-separate : (xs : List Id) → Separate xs → Separate (sort xs)
unfolding sort
sort-separate [] h = tt
sort-separate (x ∷ xs) h = insert-separate x (sort xs) (sort-all (Unlike x) xs h.0) (sort-separate xs h.1)
