-- A walk still fits after each of its moves, and so after each step.
use Prim.Native.Nat.{ℕ, zero, suc, ◌+◌, ◌-◌, ◌*◌, ◌<◌, ◌≤◌, ◌^◌}
use mathlib.Core.Bool.{Bool, true, false, ◌&&◌, cond}
use mathlib.Core.List.{List}
use mathlib.Core.Path.{◌≡◌, refl}
use native.Mathlib.Omega.{arith}
use lib.Dec.{ltb, leb, eqb}
use lib.ListN.{length, take}
use borrow.Author.Tests.{ltb-true, leb-true}
use Rattle.paper.specs.Hearing.{bits_of, begins}
use Rattle.ids.specs.declared.Id.{Id}
use Rattle.ids.specs.Ids.{id_of, no_id}
use Rattle.hearing.specs.declared.Heard.{Heard}
use Rattle.walk_table.specs.declared.Table.{Table}
use Rattle.walk.specs.declared.Walk.{Walk}
use Rattle.walk.specs.declared.Phase.{Phase}
use Rattle.walk.specs.declared.Phase.TheVariants.{Asked, Mine, Other, Leaving}
use Rattle.walk.specs.Moves.{standing, finding, holding, no_walk, mark, lower, raise, turn, climb}
use Rattle.walk_step.specs.declared.End.TheVariants.{DuplicateUid}
use Rattle.walk_step.specs.Steps.{Next}
use Rattle.walk_step.specs.Steps.{stopped, descend, onward, leave, silent, kept, confirming, hears, mine, other}
use Rattle.walk_step.specs.Steps.{settled, done, tell, step}
use Rattle.host_state.specs.State.{Array, IdFits, TableFits, WalkFits}
use Rattle.host_state.proofs.Laws.{no-id-fits, no-walk-fits}
use Rattle.host_theory.proofs.ByteArrays.{chosen, array-set, array-cut, array-bit}
use Rattle.host_theory.proofs.TableFits.{row-kept-fits, rows-sorted-fits}

abbrev NextFits : Next → Type 0
NextFits n = WalkFits n.walk

module _ (w : Walk) (h : WalkFits w) where
  pub standing-fits : (path : List ℕ) (depth : ℕ) (marks : List ℕ) → Array 16 path → depth < 2 ^ 64 → Array 128 marks
      → WalkFits (standing w path depth marks)
  standing-fits path depth marks p d m =
      record { path = p; depth = d; marks = m; found = h.found; candidate = h.candidate }

  finding-fits : (t : Table) → TableFits t → WalkFits (finding w t)
  finding-fits t k = record { path = h.path; depth = h.depth; marks = h.marks; found = k; candidate = h.candidate }

  holding-fits : (x : Id) → IdFits x → WalkFits (holding w x)
  holding-fits x k = record { path = h.path; depth = h.depth; marks = h.marks; found = h.found; candidate = k }

  lower-fits : w.place.depth < 128 → WalkFits (lower w)
  unfolding lower
  lower-fits small = standing-fits w.place.path (w.place.depth + 1) _ h.path (omega arith)
      (array-set 128 w.place.marks h.marks w.place.depth 1 (omega arith))

  raise-fits : WalkFits (raise w)
  unfolding raise
  raise-fits =
      standing-fits _ (w.place.depth - 1) _ (array-cut 16 w.place.path h.path (w.place.depth - 1)) (omega (arith, h.depth))
      (array-set 128 w.place.marks h.marks (w.place.depth - 1) 0 (omega arith))

  turn-fits : WalkFits (turn w)
  unfolding turn
  turn-fits = standing-fits _ w.place.depth _ (array-bit 16 w.place.path h.path (w.place.depth - 1)) h.depth
      (array-set 128 w.place.marks h.marks (w.place.depth - 1) 2 (omega arith))

climb-fits : (n : ℕ) (w : Walk) → WalkFits w → WalkFits (climb n w)
unfolding climb
climb-fits zero w h = h
climb-fits (suc n) w h = go (climb-fits n (raise w) (raise-fits w h)) (eqb (mark w) 2)
  where
    go : WalkFits (climb n (raise w)) → (b : Bool) → WalkFits (cond b (climb n (raise w)) w)
    go ih true = ih
    go ih false = h

module _ (w : Walk) (h : WalkFits w) where
  descend-fits : NextFits (descend w)
  unfolding descend stopped
  descend-fits = chosen NextFits (ltb w.place.depth 128) _ _ (λ e. lower-fits w h (ltb-true w.place.depth 128 e))
      (λ e. no-walk-fits)

  onward-fits : NextFits (onward w)
  unfolding onward
  onward-fits = chosen NextFits (eqb (mark w) 1) _ _ (λ e. turn-fits w h) (λ e. h)

module _ (w : Walk) (h : WalkFits w) where
  leave_fits : NextFits (leave w)
  unfolding leave
  leave_fits = onward-fits (climb w.place.depth w) (climb-fits w.place.depth w h)

module _ (w : Walk) (h : WalkFits w) where
  silent-fits : NextFits (silent w)
  unfolding silent
  silent-fits = chosen NextFits (eqb (mark w) 1) _ _ (λ e. descend-fits (turn w) (turn-fits w h)) (λ e. leave_fits w h)

  module _ (x : Id) (k : IdFits x) where
    kept-fits : NextFits (kept w x)
    unfolding kept stopped
    kept-fits =
        chosen NextFits (ltb w.found.count 64) _ _
        (λ e. leave_fits (finding w _)
        (finding-fits w h _ (row-kept-fits w.found h.found (ltb-true w.found.count 64 e) (record { id = x }) k)))
        (λ e. no-walk-fits)

    confirming-fits : NextFits (confirming w x)
    unfolding confirming
    confirming-fits = chosen NextFits (ltb w.place.depth (8 * length (id_of x))) _ _ (λ e. holding-fits w h x k)
        (λ e. kept-fits)

    hears-fits : (d : Heard) → NextFits (hears w d x)
    unfolding hears stopped
    hears-fits Heard.Nothing = silent-fits
    hears-fits Heard.One = chosen NextFits (begins (take w.place.depth (bits_of w.place.path)) (bits_of (id_of x))) _ _
        (λ e. confirming-fits) (λ e. descend-fits w h)
    hears-fits Heard.TooLong = no-walk-fits
    hears-fits Heard.Unaddressed = no-walk-fits
    hears-fits Heard.Garble = descend-fits w h

module _ (w : Walk) (h : WalkFits w) (x : Id) (k : IdFits x) where
  settled-fits : (held : Bool) → NextFits (settled w held)
  unfolding settled
  settled-fits held = chosen NextFits held _ _ (λ e. kept-fits (holding w no_id) bare w.place.candidate h.candidate)
      (λ e. descend-fits (holding w no_id) bare)
    where
      bare : WalkFits (holding w no_id)
      bare = holding-fits w h no_id no-id-fits

  mine-fits : (d : Heard) → NextFits (mine w d x)
  unfolding mine stopped
  mine-fits Heard.Nothing = h
  mine-fits Heard.One = h
  mine-fits Heard.TooLong = no-walk-fits
  mine-fits Heard.Unaddressed = h
  mine-fits Heard.Garble = h

  other_fits : (good : Bool) (d : Heard) → NextFits (other w good d)
  unfolding other stopped
  other_fits good Heard.Nothing = settled-fits good
  other_fits good Heard.One = settled-fits false
  other_fits good Heard.TooLong = no-walk-fits
  other_fits good Heard.Unaddressed = settled-fits false
  other_fits good Heard.Garble = settled-fits false

  tell-fits : (p : Phase) (d : Heard) → w.found.count ≤ 64 → NextFits (tell w p d x)
  unfolding tell done
  tell-fits Asked d few = hears-fits w h x k d
  tell-fits Mine d few = mine-fits d
  tell-fits (Other good) d few = other_fits good d
  tell-fits Leaving d few = finding-fits no_walk no-walk-fits _ (rows-sorted-fits w.found h.found few)

  pub step_fits : (p : Phase) (d : Heard) → NextFits (step w p d x)
  unfolding step stopped
  step_fits p d =
      both (leb w.place.depth 128) (leb w.found.count 64) refl
    where
      both : (a b : Bool) → leb w.found.count 64 ≡ b
          → NextFits (cond (a && b) (tell w p d x) (stopped DuplicateUid))
      both true true e = tell-fits p d (leb-true w.found.count 64 e)
      both true false e = no-walk-fits
      both false b e = no-walk-fits
