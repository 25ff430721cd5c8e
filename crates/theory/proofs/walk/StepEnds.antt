-- How a step of the walk machine can end: stopped with 12, 14, 15 or 23, or, in the deselect only, done.
use Prim.Native.Nat.{ℕ}
use mathlib.Core.Bool.{Bool, true, false, ◌&&◌, cond}
use mathlib.Core.List.{List, [], ◌∷◌, ◌++◌}
use lib.Dec.{ltb}
use lib.ListN.{drop, length}
use Rattle.paper.specs.Hearing.{Id, Prefix, bits_of, matches, Heard, nothing, one, unaddressed, garble}
use Rattle.paper.specs.Walk.{is_nothing, done, stopped}
use Rattle.theory.specs.WalkMachine.{Marks, path, Phase, asked, mine, other, leaving, State, Next, going, ended}
use Rattle.theory.specs.WalkMachine.{to, leave, descend, silent, kept, confirming, hears, tell, too_long, step}

-- The machine is not done, and if it has stopped, its number satisfies P.
abbrev pub Undone : (ℕ → Type 0) → Next → Type 0
Undone P (going s) = Unit {0}
Undone P (ended (done ids)) = ⊥
Undone P (ended (stopped c)) = P c

-- The phase is not the deselect.
abbrev pub Staying : Phase → Type 0
Staying asked = Unit {0}
Staying (mine id) = Unit {0}
Staying (other id good) = Unit {0}
Staying leaving = ⊥

module _ (P : ℕ → Type 0) (deep : P 12) (long : P 14) (full : P 15) (bare : P 23) (pre : Prefix) where
  leave-undone : (marks : Marks) (ids : List Id) → Undone P (leave pre marks ids)
  unfolding leave
  leave-undone [] ids = tt
  leave-undone (false ∷ marks) ids = tt
  leave-undone (true ∷ marks) ids = leave-undone marks ids

  descend-undone : (marks : Marks) (ids : List Id) → Undone P (descend pre marks ids)
  unfolding descend
  descend-undone marks ids = go (ltb (length (path pre marks)) 128)
    where
      go : (b : Bool) → Undone P (cond b (to pre (false ∷ marks) ids asked) (ended (stopped 12)))
      go true = tt
      go false = deep

  kept-undone : (marks : Marks) (ids : List Id) (id : Id) → Undone P (kept pre marks ids id)
  unfolding kept
  kept-undone marks ids id = go (ltb (length ids) 64)
    where
      go : (b : Bool) → Undone P (cond b (leave pre marks (ids ++ (id ∷ []))) (ended (stopped 15)))
      go true = leave-undone marks (ids ++ (id ∷ []))
      go false = full

  hears-undone : (marks : Marks) (ids : List Id) (h : Heard) → Undone P (hears pre marks ids h)
  unfolding hears silent confirming
  hears-undone marks ids nothing = quiet marks
    where
      quiet : (marks : Marks) → Undone P (silent pre marks ids)
      quiet [] = leave-undone [] ids
      quiet (false ∷ ms) = descend-undone (true ∷ ms) ids
      quiet (true ∷ ms) = leave-undone ms ids
  hears-undone marks ids (one id) = go (matches (path pre marks) id) (drop (length (path pre marks)) (bits_of id))
    where
      go : (b : Bool) (rest : List Bool) → Undone P (cond b (confirming pre marks ids id rest) (descend pre marks ids))
      go true [] = kept-undone marks ids id
      go true (b ∷ rest) = tt
      go false rest = descend-undone marks ids
  hears-undone marks ids unaddressed = bare
  hears-undone marks ids garble = descend-undone marks ids

  tell-undone : (marks : Marks) (ids : List Id) (phase : Phase) (h : Heard) → Staying phase
      → Undone P (tell pre marks ids phase h)
  unfolding tell
  tell-undone marks ids asked h a = hears-undone marks ids h
  tell-undone marks ids (mine id) h a = tt
  tell-undone marks ids (other id good) h a = go (good && is_nothing h)
    where
      go : (b : Bool) → Undone P (cond b (kept pre marks ids id) (descend pre marks ids))
      go true = kept-undone marks ids id
      go false = descend-undone marks ids
  tell-undone marks ids leaving h a = absurd a

pub step-undone : (P : ℕ → Type 0) → P 12 → P 14 → P 15 → P 23 → (s : State) (h : Heard) → Staying s.phase
    → Undone P (step s h)
unfolding step
step-undone P deep long full bare s h a = go (too_long s.phase h)
  where
    go : (b : Bool) → Undone P (cond b (ended (stopped 14)) (tell s.pre s.marks s.ids s.phase h))
    go true = long
    go false = tell-undone P deep long full bare s.pre s.marks s.ids s.phase h a
