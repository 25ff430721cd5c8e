-- Ids of any lengths, none a prefix of another: how many Selects a discovery of them takes. Also lists of ids in order.
use Rattle.std.specs.Prelude.{ℕ, ◌+◌, ◌-◌, ◌*◌, ◌≤◌, true, false, List, [], ◌∷◌, ◌≡◌, length}
use Rattle.paper.specs.Hearing.{Id, Prefix, bits_of, matches, before}
use Rattle.paper.specs.Count.{matching, All, sum_over, sum_under, alone_under, forked}

-- Neither id is a prefix of the other.
abbrev pub Unlike : Id → Id → Type 0
Unlike x y = (matches (bits_of x) y ≡ false) × (matches (bits_of y) x ≡ false)

-- No id of the list is a prefix of another.
abbrev pub Separate : List Id → Type 0
Separate [] = Unit {0}
Separate (x ∷ xs) = All (Unlike x) xs × Separate xs

-- At most 64 ids of at most 16 bytes each, none a prefix of another.
pub record Apart (ids : List Id) : Type 0 where
  pub few : length ids ≤ 64
  pub separate : Separate ids
  pub short : All (λ id. length id ≤ 16) ids

-- As `alone_under` of the paper, with the id's own number of bits.
abbrev pub own_alone : List Id → ℕ → Id → ℕ
own_alone ids p x = alone_under ids p (8 * length x) x

-- As `selects` of the paper, with each id's own length.
unfoldable pub own_selects : List Id → Prefix → ℕ
own_selects ids prefix =
    2 + (sum_over (own_alone ids (length prefix)) (matching prefix ids) + sum_under (129 - length prefix) prefix
    (forked ids))

-- Each id comes before all that follow it.
abbrev pub Sorted : List Id → Type 0
Sorted [] = Unit {0}
Sorted (x ∷ xs) = All (λ y. before x y ≡ true) xs × Sorted xs
