-- Document 01, "The walk": the discovery as a conversation of Selects, and its run over a wire.
use Rattle.std.specs.Prelude.{ℕ, zero, suc, ◌-◌, Bool, true, false, ◌&&◌, not, cond, List, [], ◌∷◌, ◌++◌, ltb, eqb, length, drop, replicate}
use Rattle.paper.specs.Hearing.{Id, Prefix, longest, bits_of, matches, before, Heard, nothing, one, unaddressed}
use Rattle.paper.specs.Hearing.{garble}

infixl 60 ◌▹◌
-- "prefix plus the id's next bit": a prefix with one more bit.
abbrev pub ◌▹◌ : Prefix → Bool → Prefix
prefix ▹ b = prefix ++ (b ∷ [])

-- "The walk": a conversation of Selects only. It returns a value, stops the operation with a number, or sends a Select
-- and goes on with what is heard.
pub data Walk (A : Type 0) : Type 0 where
  return : A → Walk A
  stop : ℕ → Walk A
  select : Prefix → (Heard → Walk A) → Walk A

infixl 20 ◌>>=◌
-- "The walk": one conversation, then another that depends on its value. If the first stops, so does the whole.
unfoldable pub ◌>>=◌ : {A B : Type 0} → Walk A → (A → Walk B) → Walk B
return a >>= f = f a
stop c >>= f = stop c
select p g >>= f = select p (λ h. g h >>= f)

-- Of the next: whether an id is heard, and it is too long.
unfoldable pub long : Heard → Bool
long nothing = false
long (one id) = ltb longest (length id)
long unaddressed = false
long garble = false

-- "An id over 16 bytes gives refusal 14": a Select that returns what is heard.
unfoldable pub ask : Prefix → Walk Heard
ask prefix = select prefix (λ h. cond (long h) (stop 14) (return h))

-- "If that is Nothing".
unfoldable pub is_nothing : Heard → Bool
is_nothing nothing = true
is_nothing (one id) = false
is_nothing unaddressed = false
is_nothing garble = false

-- Of the next: whether two ids are equal.
unfoldable pub same_id : Id → Id → Bool
same_id [] [] = true
same_id [] (y ∷ ys) = false
same_id (x ∷ xs) [] = false
same_id (x ∷ xs) (y ∷ ys) = eqb x y && same_id xs ys

-- "hears the same id".
unfoldable pub is_one : Id → Heard → Bool
is_one id nothing = false
is_one id (one x) = same_id x id
is_one id unaddressed = false
is_one id garble = false

-- "If it has no further bit, it holds, without a probe. Else Select prefix plus the id's next bit, then prefix plus the
-- other bit, always both; it holds if the first hears the same id and the second Nothing."
unfoldable pub confirm_rest : Prefix → Id → List Bool → Walk Bool
confirm_rest prefix id [] = return true
confirm_rest prefix id (b ∷ bits) = do
  mine ← ask (prefix ▹ b)
  other ← ask (prefix ▹ not b)
  return (is_one id mine && is_nothing other)

-- "If the id does not begin with the prefix, it fails."
unfoldable pub confirm : Prefix → Id → Walk Bool
confirm prefix id = cond (matches prefix id) (confirm_rest prefix id (drop (length prefix) (bits_of id))) (return false)

-- "Held: the id is kept."; "A 65th kept id gives 15."
unfoldable pub keep : List Id → Id → Walk (List Id)
keep ids id = cond (ltb (length ids) 64) (return (ids ++ (id ∷ []))) (stop 15)

-- "Nothing: the branch ends. Unaddressed: the discovery ends with outcome 23, no ids, no deselect. One: confirm. ..
-- Held: the id is kept. Else descend".
unfoldable pub judge : Prefix → List Id → Heard → Walk (List Id) → Walk (List Id)
judge prefix ids nothing descend = return ids
judge prefix ids (one id) descend = do
  held ← confirm prefix id
  cond held (keep ids id) descend
judge prefix ids unaddressed descend = stop 23
judge prefix ids garble descend = descend

-- "at 128 bits give 12. Select the zero child. If that is Nothing, the one child counts as Garble with no probe. Walk
-- the zero child, then the one child." What was heard for the prefix is given; the prefix can grow by n bits.
unfoldable pub walk : ℕ → Prefix → List Id → Heard → Walk (List Id)
walk zero prefix ids heard = judge prefix ids heard (stop 12)
walk (suc n) prefix ids heard = judge prefix ids heard (do
  zeros ← ask (prefix ▹ false)
  ids₁ ← walk n (prefix ▹ false) ids zeros
  ones ← cond (is_nothing zeros) (return garble) (ask (prefix ▹ true))
  walk n (prefix ▹ true) ids₁ ones)

-- Of the next: an id inserted into a sorted list.
unfoldable pub insert : Id → List Id → List Id
insert x [] = x ∷ []
insert x (y ∷ ys) = cond (before x y) (x ∷ y ∷ ys) (y ∷ insert x ys)

-- "sort by bytes, a shorter id before one that it begins."
unfoldable pub sort : List Id → List Id
sort [] = []
sort (x ∷ xs) = insert x (sort xs)

-- "Deselect is a Select of 129 zero bits".
unfoldable pub nobody : Prefix
nobody = replicate 129 false

-- "Probe the prefix"; "At the end deselect and sort".
unfoldable pub discover : Prefix → Walk (List Id)
discover prefix = do
  heard ← ask prefix
  ids ← walk (128 - length prefix) prefix [] heard
  select nobody (λ _. return (sort ids))

-- "The walk": a wire. It gives what is heard, from the number of Selects sent before and the prefix asked.
abbrev pub Wire : Type 0
Wire = ℕ → Prefix → Heard

-- "The walk": how a conversation ends: with a value, or with a number.
pub data Ended (A : Type 0) : Type 0 where
  done : A → Ended A
  stopped : ℕ → Ended A

-- "The walk": the run of a conversation over a wire, after k Selects: how it ends, and how many Selects were sent by
-- then.
unfoldable pub run : {A : Type 0} → Wire → ℕ → Walk A → Ended A × ℕ
run wire k (return a) = (done a, k)
run wire k (stop c) = (stopped c, k)
run wire k (select p f) = run wire (suc k) (f (wire k p))
