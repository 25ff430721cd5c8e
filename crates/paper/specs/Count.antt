-- Document 01, "The walk": the honest wire, the ids that the count is stated for, and the number of Selects.
use Rattle.std.specs.Prelude.{ℕ, zero, suc, ◌+◌, ◌-◌, ◌*◌, ◌≤◌, ◌<◌, Bool, true, false, ◌||◌, cond, List, [], ◌∷◌, ◌≡◌, ltb, eqb, length, take}
use Rattle.paper.specs.Hearing.{Id, Prefix, bits_of, matches, Heard, nothing, one, garble}
use Rattle.paper.specs.Walk.{◌▹◌, Wire}

-- "ids matching the given prefix": in the order of the list.
unfoldable pub matching : Prefix → List Id → List Id
matching q [] = []
matching q (x ∷ xs) = cond (matches q x) (x ∷ matching q xs) (matching q xs)

-- Of the next: what is heard when these ids answer: nothing, the one id, or garble.
unfoldable pub heard_of : List Id → Heard
heard_of [] = nothing
heard_of (x ∷ []) = one x
heard_of (x ∷ y ∷ zs) = garble

-- "an honest wire": exactly the ids that match the prefix asked answer.
unfoldable pub honest : List Id → Wire
honest ids k q = heard_of (matching q ids)

-- Of the next: P holds for every member.
abbrev pub All : {A : Type 0} → (A → Type 0) → List A → Type 0
All P [] = Unit {0}
All P (x ∷ xs) = P x × All P xs

-- "distinct".
abbrev pub Distinct : List Id → Type 0
Distinct [] = Unit {0}
Distinct (x ∷ xs) = All (λ y. ¬ (x ≡ y)) xs × Distinct xs

-- "ids matching the given prefix are distinct and of equal length", L bytes; "ids to 16 bytes, at most 64 ids".
pub record Pods (L : ℕ) (ids : List Id) : Type 0 where
  pub few : length ids ≤ 64
  pub distinct : Distinct ids
  pub sized : All (λ id. length id ≡ L) ids
  pub bytes : All (λ id. All (λ b. b < 256) id) ids
  pub within16 : L ≤ 16

-- "that several ids match": how many ids match a prefix.
abbrev pub count : List Id → Prefix → ℕ
count ids q = length (matching q ids)

-- "under some prefix": whether some number below n passes the test.
unfoldable pub some_below : ℕ → (ℕ → Bool) → Bool
some_below zero test = false
some_below (suc n) test = test n || some_below n test

-- "plus 2 for each id": the sum of f over a list.
unfoldable pub sum_over : (Id → ℕ) → List Id → ℕ
sum_over f [] = 0
sum_over f (x ∷ xs) = f x + sum_over f xs

-- "plus for every prefix of p bits or more that extends the given one": the sum of f over q and every prefix that
-- extends q by fewer than d bits.
unfoldable pub sum_under : ℕ → Prefix → (Prefix → ℕ) → ℕ
sum_under zero q f = 0
sum_under (suc d) q f = f q + (sum_under d (q ▹ false) f + sum_under d (q ▹ true) f)

-- "2 for each id alone under some prefix of at least p and fewer than 8L bits": n is 8L.
unfoldable pub alone_under : List Id → ℕ → ℕ → Id → ℕ
alone_under ids p n x = cond (some_below (n - p) (λ i. eqb (count ids (take (p + i) (bits_of x))) 1)) 2 0

-- "that several ids match: 2 if some id matches its zero child, else 1."
unfoldable pub forked : List Id → Prefix → ℕ
forked ids q = cond (ltb 1 (count ids q)) (cond (ltb 0 (count ids (q ▹ false))) 2 1) 0

-- "Count for an honest wire .. 2, plus 2 for each id .. plus for every prefix". The sum ends at prefixes of 128 bits: a
-- longer one matches no id.
unfoldable pub selects : List Id → ℕ → Prefix → ℕ
selects ids L prefix =
    2 + (sum_over (alone_under ids (length prefix) (8 * L)) (matching prefix ids) + sum_under (129 - length prefix) prefix
    (forked ids))

-- "the bare bound" (of "Holding the contracts to account") on the Selects of a discovery, as in condition 3.
abbrev pub limit : Prefix → ℕ
limit prefix = 132 + 260 * (128 - length prefix)
