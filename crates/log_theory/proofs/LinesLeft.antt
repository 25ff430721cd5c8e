-- The records still to come from a place within a line, and how each character changes them. They are the paper's
-- definitions, shifted by one character.
use Prim.Native.Nat.{ℕ, ◌+◌, ◌*◌, ◌%◌, ◌<◌, ◌≤◌}
use mathlib.Core.Bool.{true, false, cond}
use mathlib.Core.List.{List, [], ◌∷◌, ◌++◌, append_assoc, append-nil}
use mathlib.Core.Option.{Option, none, some}
use mathlib.Core.Path.{◌≡◌, refl, sym, ◌∙◌, ap}
use native.Mathlib.Omega.{arith}
use lib.ListN.{length, length-append}
use lib.Dec.{ltb}
use borrow.Author.Tests.{ltb-true, lt-ltb, le-ltb}
use Rattle.paper.specs.Hearing.{on_some}
use Rattle.paper.specs.Text.{digit, unhex}
use Rattle.paper.specs.Log.{Records, missing, spoilt, joined, longer}
use Rattle.log_lines.specs.declared.Place.{Place}
use Rattle.log_lines.specs.declared.Place.TheVariants.{Start, Even, Odd}

-- One more byte at the front.
abbrev pub behind : ℕ → Option (List ℕ) → Option (List ℕ)
behind v t = on_some t none (λ bytes. some (v ∷ bytes))

-- The bytes of a line from its second digit on; h is the first.
unfoldable pub odd : ℕ → List ℕ → Option (List ℕ)
odd h [] = none
odd h (b ∷ l) = cond (ltb (digit b) 16) (behind (h % 16 * 16 + digit b) (unhex l)) none

unfoldable pub carried : ℕ → List ℕ → Option (List ℕ) → List (List ℕ) → Records
carried cap acc t ls = on_some t spoilt (λ bs. cond (ltb cap (length (acc ++ bs))) spoilt (joined cap (acc ++ bs) ls))

unfoldable pub from_even : ℕ → List ℕ → List (List ℕ) → Records
from_even cap acc [] = missing
from_even cap acc (l ∷ ls) = carried cap acc (unhex l) ls

unfoldable pub from_odd : ℕ → ℕ → List ℕ → List (List ℕ) → Records
from_odd cap h acc [] = spoilt
from_odd cap h acc (l ∷ ls) = carried cap acc (odd h l) ls

-- The records from a place within a line: the first has the bytes `acc` so far, `ls` is the text not yet read.
unfoldable pub from : ℕ → Place → List ℕ → List (List ℕ) → Records
from cap Start acc ls = joined cap acc ls
from cap Even acc ls = from_even cap acc ls
from cap (Odd h) acc ls = from_odd cap h acc ls

-- A character that is a digit, and one that is not.
module _ (b : ℕ) (good : ltb (digit b) 16 ≡ true) where
  pub second : (l : List ℕ) → unhex (b ∷ l) ≡ odd (digit b) l
  unfolding unhex odd
  second [] = refl
  second (c ∷ l) =
      let h : digit b < 16 = ltb-true (digit b) 16 good in
      let same : digit b % 16 ≡ digit b = omega arith in
      rw (good, same)

  pub odd_is : (h : ℕ) (l : List ℕ) → odd h (b ∷ l) ≡ behind (h % 16 * 16 + digit b) (unhex l)
  unfolding odd
  odd_is h l = rw good

module _ (b : ℕ) (bad : ltb (digit b) 16 ≡ false) where
  pub unread : (l : List ℕ) → unhex (b ∷ l) ≡ none
  unfolding unhex
  unread [] = refl
  unread (c ∷ l) = rw bad

  pub odd-unread : (h : ℕ) (l : List ℕ) → odd h (b ∷ l) ≡ none
  unfolding odd
  odd-unread h l = rw bad

  pub refused : (cap : ℕ) (p : Place) (acc : List ℕ) (ls : List (List ℕ)) → from cap p acc (longer b ls) ≡ spoilt
  unfolding from joined from_even from_odd longer carried
  refused cap Start acc [] = ap (λ (t : Option (List ℕ)). carried cap acc t []) (unread [])
  refused cap Start acc (l ∷ ls) = ap (λ (t : Option (List ℕ)). carried cap acc t ls) (unread l)
  refused cap Even acc [] = ap (λ (t : Option (List ℕ)). carried cap acc t []) (unread [])
  refused cap Even acc (l ∷ ls) = ap (λ (t : Option (List ℕ)). carried cap acc t ls) (unread l)
  refused cap (Odd h) acc [] = ap (λ (t : Option (List ℕ)). carried cap acc t []) (odd-unread h [])
  refused cap (Odd h) acc (l ∷ ls) = ap (λ (t : Option (List ℕ)). carried cap acc t ls) (odd-unread h l)

module _ (b : ℕ) (good : ltb (digit b) 16 ≡ true) (cap : ℕ) (acc : List ℕ) where
  pub half-start : (ls : List (List ℕ)) → from cap Start acc (longer b ls) ≡ from cap (Odd (digit b)) acc ls
  unfolding from joined from_odd longer carried unhex
  half-start [] = refl
  half-start (l ∷ ls) = ap (λ (t : Option (List ℕ)). carried cap acc t ls) (second b good l)

  pub half-even : (ls : List (List ℕ)) → from cap Even acc (longer b ls) ≡ from cap (Odd (digit b)) acc ls
  unfolding from from_even from_odd longer carried unhex
  half-even [] = refl
  half-even (l ∷ ls) = ap (λ (t : Option (List ℕ)). carried cap acc t ls) (second b good l)

module _ (cap v : ℕ) (acc : List ℕ) where
  carry : (t : Option (List ℕ)) (ls : List (List ℕ))
      → carried cap acc (behind v t) ls ≡ carried cap (acc ++ (v ∷ [])) t ls
  unfolding carried
  carry none ls = refl
  carry (some bs) ls = ap (λ (l : List ℕ). cond (ltb cap (length l)) spoilt (joined cap l ls))
      (sym (append_assoc acc (v ∷ []) bs))

  too_many : cap < length acc + 1 → (t : Option (List ℕ)) (ls : List (List ℕ))
      → carried cap acc (behind v t) ls ≡ spoilt
  unfolding carried
  too_many h none ls = refl
  too_many h (some bs) ls = rw (lt-ltb cap (length (acc ++ (v ∷ bs))) (omega (arith, length-append acc (v ∷ bs))))

module _ (b : ℕ) (good : ltb (digit b) 16 ≡ true) (cap h : ℕ) (acc : List ℕ) where
  abbrev v : ℕ
  v = h % 16 * 16 + digit b

  last : length acc + 1 ≤ cap → carried cap (acc ++ (v ∷ [])) (unhex []) [] ≡ missing
  unfolding carried unhex joined
  last k = rw (append-nil, le-ltb cap (length (acc ++ (v ∷ []))) (omega (arith, length-append acc (v ∷ []))))

  pub whole : length acc + 1 ≤ cap → (ls : List (List ℕ))
      → from cap (Odd h) acc (longer b ls) ≡ from cap Even (acc ++ (v ∷ [])) ls
  unfolding from from_even from_odd longer
  whole k [] = ap (λ (t : Option (List ℕ)). carried cap acc t []) (odd_is b good h []) ∙ carry cap v acc (unhex []) []
      ∙ last k
  whole k (l ∷ ls) = ap (λ (t : Option (List ℕ)). carried cap acc t ls) (odd_is b good h l)
      ∙ carry cap v acc (unhex l) ls

  pub over : cap < length acc + 1 → (ls : List (List ℕ)) → from cap (Odd h) acc (longer b ls) ≡ spoilt
  unfolding from from_odd longer
  over k [] = ap (λ (t : Option (List ℕ)). carried cap acc t []) (odd_is b good h [])
      ∙ too_many cap v acc k (unhex []) []
  over k (l ∷ ls) = ap (λ (t : Option (List ℕ)). carried cap acc t ls) (odd_is b good h l)
      ∙ too_many cap v acc k (unhex l) ls

pub lf-even : (cap : ℕ) (acc : List ℕ) → length acc ≤ cap → (ls : List (List ℕ))
    → from cap Even acc ([] ∷ ls) ≡ from cap Start acc ls
unfolding from from_even carried unhex
lf-even cap acc h ls = rw (append-nil, le-ltb cap (length acc) h)

pub lf-odd : (cap h : ℕ) (acc : List ℕ) (ls : List (List ℕ)) → from cap (Odd h) acc ([] ∷ ls) ≡ spoilt
unfolding from from_odd carried odd
lf-odd cap h acc ls = refl
