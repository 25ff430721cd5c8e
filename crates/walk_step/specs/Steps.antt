-- The walk's step on its record. The names are those of the machine in crates/theory/specs/WalkMachine.antt.
use Rattle.std.specs.Prelude.{◌*◌, Bool, false, ◌&&◌, cond, length, take, ltb, leb, eqb}
use Rattle.paper.specs.Hearing.{bits_of, begins}
use Rattle.paper.specs.Walk.{same_id}
use Rattle.ids.specs.declared.Id.{Id}
use Rattle.ids.specs.Ids.{id_of, no_id}
use Rattle.hearing.specs.declared.Heard.{Heard}
use Rattle.hearing.specs.Heard.{on_heard}
use Rattle.walk_table.specs.Rows.{keep, sorted}
use Rattle.walk.specs.declared.Walk.{Walk}
use Rattle.walk.specs.declared.Phase.{Phase}
use Rattle.walk.specs.declared.Phase.TheVariants.{Asked, Mine, Other, Leaving}
use Rattle.walk.specs.Moves.{on_phase, finding, holding, no_walk, mark, lower, turn, climb}
use Rattle.walk_step.specs.declared.End.{End}
use Rattle.walk_step.specs.declared.End.TheVariants.{DuplicateUid, LongId, TableFull, Unaddressed}

-- How a step ends. On: the walk goes on, with what its next Select is for. Done: it is done. Stopped: it ends early.
pub data Goes : Type 0 where
  On : Phase → Goes
  Done : Goes
  Stopped : End → Goes

-- The result of a step: how it ends, and the walk's record then.
pub record Next : Type 0 where
  pub goes : Goes
  pub walk : Walk

abbrev pub going : Phase → Walk → Next
going p w = record { goes = On p; walk = w }

unfoldable pub stopped : End → Next
stopped end = record { goes = Stopped end; walk = no_walk }

-- Down to the zero child. At 128 bits there is none: 12.
unfoldable pub descend : Walk → Next
descend w = cond (ltb w.place.depth 128) (going Asked (lower w)) (stopped DuplicateUid)

-- From a zero child to the one child beside it; from the given prefix to the deselect.
unfoldable pub onward : Walk → Next
onward w = cond (eqb (mark w) 1) (going Asked (turn w)) (going Leaving w)

-- The branch has ended: up to the nearest zero child and to the one child beside it, or to the deselect.
unfoldable pub leave : Walk → Next
leave w = onward (climb w.place.depth w)

-- Nothing was heard. After a silent zero child the one child counts as garble, and is not probed.
unfoldable pub silent : Walk → Next
silent w = cond (eqb (mark w) 1) (descend (turn w)) (leave w)

-- An id is kept. A 65th ends the walk with 15.
unfoldable pub kept : Walk → Id → Next
kept w x = cond (ltb w.found.count 64) (leave (finding w (keep w.found (record { id = x })))) (stopped TableFull)

-- An id that begins with the path. Both children have to confirm it, unless it has no further bit.
unfoldable pub confirming : Walk → Id → Next
confirming w x = cond (ltb w.place.depth (8 * length (id_of x))) (going Mine (holding w x)) (kept w x)

-- The path was asked for.
unfoldable pub hears : Walk → Heard → Id → Next
hears w h x =
    on_heard h
    (silent w)
    (cond (begins (take w.place.depth (bits_of w.place.path)) (bits_of (id_of x))) (confirming w x) (descend w))
    (stopped LongId)
    (stopped Unaddressed)
    (descend w)

-- Both children were asked for: the candidate is kept if it held, or the walk goes down.
unfoldable pub settled : Walk → Bool → Next
settled w held = cond held (kept (holding w no_id) w.place.candidate) (descend (holding w no_id))

-- The walk is done: only its list is left, sorted.
unfoldable pub done : Walk → Next
done w = record { goes = Done; walk = finding no_walk (sorted w.found) }

-- The candidate's own child was asked for. The other child is next, whether or not the candidate was heard again.
unfoldable pub mine : Walk → Heard → Id → Next
mine w h x =
    on_heard h
    (going (Other false) w)
    (going (Other (same_id (id_of x) (id_of w.place.candidate))) w)
    (stopped LongId)
    (going (Other false) w)
    (going (Other false) w)

-- The other child was asked for. The candidate holds if it was heard again in its own child and this one is silent.
unfoldable pub other : Walk → Bool → Heard → Next
other w good h = on_heard h (settled w good) (settled w false) (stopped LongId) (settled w false) (settled w false)

-- The step by what the Select was for.
unfoldable pub tell : Walk → Phase → Heard → Id → Next
tell w p h x = on_phase p (hears w h x) (mine w h x) (λ good. other w good h) (done w)

-- The step of any record. One with over 128 levels or 64 ids, which no calls lead to, ends with 12.
unfoldable pub step : Walk → Phase → Heard → Id → Next
step w p h x = cond (leb w.place.depth 128 && leb w.found.count 64) (tell w p h x) (stopped DuplicateUid)
