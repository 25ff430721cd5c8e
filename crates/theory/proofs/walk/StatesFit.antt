-- Every state that the walk machine reaches fits the code's arrays: 128 levels, 64 ids, 16 bytes for each.
use Prim.Native.Nat.{ℕ, ◌*◌, ◌≤◌, ◌<◌}
use mathlib.Core.Bool.{Bool, true, false, ◌&&◌, not, cond}
use mathlib.Core.List.{List, [], ◌∷◌, ◌++◌}
use mathlib.Core.Path.{◌≡◌, refl, ap}
use native.Mathlib.Omega.{arith}
use lib.Dec.{ltb}
use lib.ListN.{drop, length, length-append, length-drop}
use borrow.Author.Tests.{ltb-false, ltb-true}
use Rattle.paper.specs.Count.{All}
use Rattle.paper.specs.Hearing.{Id, Prefix, bits_of, matches, Heard, nothing, one, unaddressed, garble}
use Rattle.paper.specs.Walk.{long, is_nothing, nobody, done, stopped}
use Rattle.paper.proofs.Bits.{bits-length}
use Rattle.theory.specs.WalkMachine.{Marks, path, Phase, asked, mine, other, leaving, State, Next, going, ended}
use Rattle.theory.specs.WalkMachine.{next_bit, request, to, leave, descend, silent, kept, confirming, hears, tell}
use Rattle.theory.specs.WalkMachine.{too_long, step, start}
use Rattle.theory.proofs.EachMember.{all_append}
use Rattle.theory.proofs.walk.SortedIds.{sort-all, sort-length}

abbrev pub Short : Id → Type 0
Short id = length id ≤ 16

-- An id that is being confirmed has at most 16 bytes, and more bits than the path.
abbrev pub Held : Prefix → Phase → Type 0
Held q asked = Unit {0}
Held q (mine id) = Short id × (length q < 8 * length id)
Held q (other id good) = Short id × (length q < 8 * length id)
Held q leaving = Unit {0}

pub record Fits (s : State) : Type 0 where
  pub depth : length (path s.pre s.marks) ≤ 128
  pub few : length s.ids ≤ 64
  pub short : All Short s.ids
  pub held : Held (path s.pre s.marks) s.phase

abbrev pub FitsNext : Next → Type 0
FitsNext (going s) = Fits s
FitsNext (ended (done ids)) = (length ids ≤ 64) × All Short ids
FitsNext (ended (stopped c)) = Unit {0}

module _ (pre : Prefix) where
  shorter : (marks : Marks) (b : Bool) (n : ℕ) → length (path pre (b ∷ marks)) ≤ n → length (path pre marks) < n
  shorter marks b n h = omega (arith, length-append (path pre marks) (b ∷ []))

  longer : (marks : Marks) (b : Bool) (n : ℕ) → length (path pre marks) < n → length (path pre (b ∷ marks)) ≤ n
  longer marks b n h = omega (arith, length-append (path pre marks) (b ∷ []))

  leave_fits : (marks : Marks) (ids : List Id) → length (path pre marks) ≤ 128 → length ids ≤ 64 → All Short ids
      → FitsNext (leave pre marks ids)
  unfolding leave
  leave_fits [] ids d f s = record { depth = d; few = f; short = s; held = tt }
  leave_fits (false ∷ marks) ids d f s =
      record { depth = longer marks true 128 (shorter marks false 128 d); few = f; short = s; held = tt }
  leave_fits (true ∷ marks) ids d f s = leave_fits marks ids (omega (arith, shorter marks true 128 d)) f s

  descend-fits : (marks : Marks) (ids : List Id) → length ids ≤ 64 → All Short ids → FitsNext (descend pre marks ids)
  unfolding descend
  descend-fits marks ids f s = go (ltb (length (path pre marks)) 128) refl
    where
      go : (b : Bool) → ltb (length (path pre marks)) 128 ≡ b
          → FitsNext (cond b (to pre (false ∷ marks) ids asked) (ended (stopped 12)))
      go true e = record {
        depth = longer marks false 128 (ltb-true (length (path pre marks)) 128 e);
        few = f;
        short = s;
        held = tt;
      }
      go false e = tt

  kept-fits : (marks : Marks) (ids : List Id) (id : Id) → length (path pre marks) ≤ 128 → All Short ids → Short id
      → FitsNext (kept pre marks ids id)
  unfolding kept
  kept-fits marks ids id d s h = go (ltb (length ids) 64) refl
    where
      go : (b : Bool) → ltb (length ids) 64 ≡ b
          → FitsNext (cond b (leave pre marks (ids ++ (id ∷ []))) (ended (stopped 15)))
      go true e = leave_fits marks (ids ++ (id ∷ [])) d
          (omega (arith, ltb-true (length ids) 64 e, length-append ids (id ∷ [])))
          (all_append Short ids (id ∷ []) s (h, tt))
      go false e = tt

  module _ (marks : Marks) (ids : List Id) (d : length (path pre marks) ≤ 128) (f : length ids ≤ 64)
      (s : All Short ids) where
    settle-fits : (id : Id) (b : Bool) → Short id → FitsNext (cond b (kept pre marks ids id) (descend pre marks ids))
    settle-fits id true h = kept-fits marks ids id d s h
    settle-fits id false h = descend-fits marks ids f s

    one-fits : (id : Id) → Short id → FitsNext (hears pre marks ids (one id))
    unfolding hears confirming
    one-fits id h = go (matches (path pre marks) id) (drop (length (path pre marks)) (bits_of id)) refl
      where
        go : (b : Bool) (rest : List Bool) → drop (length (path pre marks)) (bits_of id) ≡ rest
            → FitsNext (cond b (confirming pre marks ids id rest) (descend pre marks ids))
        go true [] e = kept-fits marks ids id d s h
        go true (b ∷ rest) e = record {
          depth = d;
          few = f;
          short = s;
          held = (h, omega (arith, ap length e, length-drop (length (path pre marks)) (bits_of id), bits-length id));
        }
        go false rest e = descend-fits marks ids f s

    silent-fits : FitsNext (silent pre marks ids)
    unfolding silent leave
    silent-fits = go marks d
      where
        go : (ms : Marks) → length (path pre ms) ≤ 128 → FitsNext (silent pre ms ids)
        go [] e = leave_fits [] ids e f s
        go (false ∷ ms) e = descend-fits (true ∷ ms) ids f s
        go (true ∷ ms) e = leave_fits (true ∷ ms) ids e f s

    hears-fits : (h : Heard) → long h ≡ false → FitsNext (hears pre marks ids h)
    unfolding hears long
    hears-fits nothing e = silent-fits
    hears-fits (one id) e = one-fits id (ltb-false 16 (length id) e)
    hears-fits unaddressed e = tt
    hears-fits garble e = descend-fits marks ids f s

    tell-fits : (phase : Phase) (h : Heard) → Held (path pre marks) phase → too_long phase h ≡ false
        → FitsNext (tell pre marks ids phase h)
    unfolding tell too_long
    tell-fits asked h w e = hears-fits h e
    tell-fits (mine id) h w e = record { depth = d; few = f; short = s; held = w }
    tell-fits (other id good) h w e = settle-fits id (good && is_nothing h) w.0
    tell-fits leaving h w e = (rw (sort-length ids) f, sort-all Short ids s)

pub step_fits : (s : State) (h : Heard) → Fits s → FitsNext (step s h)
unfolding step
step_fits s h t = go (too_long s.phase h) refl
  where
    go : (b : Bool) → too_long s.phase h ≡ b
        → FitsNext (cond b (ended (stopped 14)) (tell s.pre s.marks s.ids s.phase h))
    go true e = tt
    go false e = tell-fits s.pre s.marks s.ids t.depth t.few t.short s.phase h t.held e

pub start_fits : (pre : Prefix) → length pre ≤ 128 → FitsNext (start pre)
unfolding start
start_fits pre le = record { depth = le; few = omega arith; short = tt; held = tt }

-- A request has at most 129 bits.
pub request-fits : (s : State) → Fits s → length (request s) ≤ 129
unfolding request nobody
request-fits s t = go s.phase t.held
  where
    go : (phase : Phase) → Held (path s.pre s.marks) phase
        → length (request (record { pre = s.pre; marks = s.marks; ids = s.ids; phase = phase })) ≤ 129
    go asked w = omega (arith, t.depth)
    go (mine id) w = omega (
      arith,
      w.0,
      w.1,
      length-append (path s.pre s.marks) (next_bit (path s.pre s.marks) id ∷ []),
    )
    go (other id good) w = omega (
      arith,
      w.0,
      w.1,
      length-append (path s.pre s.marks) (not (next_bit (path s.pre s.marks) id) ∷ []),
    )
    go leaving w = omega arith
