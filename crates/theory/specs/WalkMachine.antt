-- The discovery as a machine: a state for each Select, the prefix that it selects, and the step on what is heard.
use Rattle.std.specs.Prelude.{ℕ, zero, suc, Bool, true, false, ◌&&◌, not, cond, List, [], ◌∷◌, ◌++◌, length, drop, ltb}
use Rattle.paper.specs.Hearing.{Id, Prefix, bits_of, matches, Heard, nothing, one, unaddressed, garble}
use Rattle.paper.specs.Walk.{◌▹◌, long, is_nothing, is_one, sort, Ended, done, stopped, Wire, nobody}

-- A mark for each level below the given prefix, the deepest first: false in a zero child, whose sibling is not walked
-- yet; true in a one child.
abbrev pub Marks : Type 0
Marks = List Bool

-- The path: the given prefix and a bit for each mark.
abbrev pub path : Prefix → Marks → Prefix
path pre [] = pre
path pre (b ∷ marks) = path pre marks ▹ b

-- What the Select that is out is for: to probe the path; to confirm an id by the child that the id is in; to confirm it
-- by the other child, with whether the first confirmed it; to deselect.
pub data Phase : Type 0 where
  asked : Phase
  mine : Id → Phase
  other : Id → Bool → Phase
  leaving : Phase

pub record State : Type 0 where
  pub pre : Prefix
  pub marks : Marks
  pub ids : List Id
  pub phase : Phase

-- The machine goes on in a state, or has ended.
pub data Next : Type 0 where
  going : State → Next
  ended : Ended (List Id) → Next

-- The first of some bits, false if there is none; the bit of an id that follows a path.
unfoldable pub bit_after : List Bool → Bool
bit_after [] = false
bit_after (b ∷ bs) = b

unfoldable pub next_bit : Prefix → Id → Bool
next_bit q id = bit_after (drop (length q) (bits_of id))

-- The prefix that a state selects.
unfoldable pub request : State → Prefix
request s = ask s.phase
  where
    ask : Phase → Prefix
    ask asked = path s.pre s.marks
    ask (mine id) = path s.pre s.marks ▹ next_bit (path s.pre s.marks) id
    ask (other id good) = path s.pre s.marks ▹ not (next_bit (path s.pre s.marks) id)
    ask leaving = nobody

abbrev pub to : Prefix → Marks → List Id → Phase → Next
to pre marks ids phase = going (record { pre = pre; marks = marks; ids = ids; phase = phase })

module _ (pre : Prefix) where
  -- The branch has ended. Climb to the nearest zero child and go to its sibling; if there is none, deselect.
  unfoldable pub leave : Marks → List Id → Next
  leave [] ids = to pre [] ids leaving
  leave (false ∷ marks) ids = to pre (true ∷ marks) ids asked
  leave (true ∷ marks) ids = leave marks ids

  unfoldable pub descend : Marks → List Id → Next
  descend marks ids = cond (ltb (length (path pre marks)) 128) (to pre (false ∷ marks) ids asked) (ended (stopped 12))

  -- Nothing was heard. After a silent zero child its sibling counts as garble, with no probe.
  unfoldable pub silent : Marks → List Id → Next
  silent [] ids = leave [] ids
  silent (false ∷ marks) ids = descend (true ∷ marks) ids
  silent (true ∷ marks) ids = leave marks ids

  unfoldable pub kept : Marks → List Id → Id → Next
  kept marks ids id = cond (ltb (length ids) 64) (leave marks (ids ++ (id ∷ []))) (ended (stopped 15))

  unfoldable pub confirming : Marks → List Id → Id → List Bool → Next
  confirming marks ids id [] = kept marks ids id
  confirming marks ids id (b ∷ rest) = to pre marks ids (mine id)

  unfoldable pub hears : Marks → List Id → Heard → Next
  hears marks ids nothing = silent marks ids
  hears marks ids (one id) = cond (matches (path pre marks) id)
      (confirming marks ids id (drop (length (path pre marks)) (bits_of id))) (descend marks ids)
  hears marks ids unaddressed = ended (stopped 23)
  hears marks ids garble = descend marks ids

  unfoldable pub tell : Marks → List Id → Phase → Heard → Next
  tell marks ids asked h = hears marks ids h
  tell marks ids (mine id) h = to pre marks ids (other id (is_one id h))
  tell marks ids (other id good) h = cond (good && is_nothing h) (kept marks ids id) (descend marks ids)
  tell marks ids leaving h = ended (done (sort ids))

-- An id over 16 bytes is refused, except after the deselect.
unfoldable pub too_long : Phase → Heard → Bool
too_long asked h = long h
too_long (mine id) h = long h
too_long (other id good) h = long h
too_long leaving h = false

unfoldable pub step : State → Heard → Next
step s h = cond (too_long s.phase h) (ended (stopped 14)) (tell s.pre s.marks s.ids s.phase h)

unfoldable pub start : Prefix → Next
start pre = to pre [] [] asked

-- The machine over a wire, for at most n Selects after k.
unfoldable pub drive : ℕ → Wire → ℕ → Next → Next × ℕ
drive zero wire k next = (next, k)
drive (suc n) wire k (ended e) = (ended e, k)
drive (suc n) wire k (going s) = drive n wire (suc k) (step s (wire k (request s)))
