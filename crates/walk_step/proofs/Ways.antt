-- Lemmas for the ways through the step that the check does not find by itself, with the facts known there as premises.
-- Some premises are only there for the search. A callee's result that appears only in facts over every list is found by
-- its range: a path of 16 bytes.
use Prim.Native.Nat.{ℕ, ◌*◌, ◌<◌, ◌≤◌}
use mathlib.Core.Bool.{Bool, true, false}
use mathlib.Core.Path.{◌≡◌, ◌∙◌, ap}
use native.Mathlib.Omega.{arith}
use lib.ListN.{length}
use borrow.Author.Tests.{lt-ltb}
use Rattle.std.specs.Prelude.{Result, Ok}
use Rattle.ids.specs.declared.Id.{Id}
use Rattle.ids.specs.Ids.{id_of, no_id}
use Rattle.walk_table.specs.declared.Table.{Table}
use Rattle.walk_table.specs.Rows.{no_table, keep, keeping}
use Rattle.walk.specs.declared.Walk.{Walk}
use Rattle.walk.specs.declared.Place.{Place}
use Rattle.walk.specs.declared.Phase.TheVariants.{Mine}
use Rattle.walk.specs.Moves.{walk_of, holding, mark}
use Rattle.walk.proofs.Ways.{deep}
use Rattle.walk_step.specs.declared.End.{End}
use Rattle.walk_step.specs.declared.Going.{Going}
use Rattle.walk_step.specs.declared.Move.{Move}
use Rattle.walk_step.specs.Steps.{going, descend, leave, kept, confirming}
use Rattle.walk_step.specs.Steps.{settled}
use Rattle.walk_step.specs.Joined.{joined}

module _ (p : Place) where
  -- A place in a zero child has a level.
  pub deep-at : (m : ℕ) → ((t : Table) → m ≡ mark (walk_of p t)) → m ≡ 1 → 0 < p.depth
  unfolding mark
  deep-at m e f = deep p.marks p.depth m 1 (e no_table) f (omega arith)

  pub holding-deep : (q : Place) (x : Id) → x ≡ no_id → ((t : Table) → walk_of q t ≡ holding (walk_of p t) x)
      → p.depth ≤ 128 → q.depth ≤ 128
  holding-deep q x f e h = rw (ap (λ (w : Walk). w.place.depth) (e no_table)) h

  module _ (n : ℕ) (x : Id) where
    pub kept_in : (g : Going) → n < 64 → ((t : Table) → going g.phase (walk_of g.place t) ≡ leave (walk_of p t))
        → (t : Table) → t.count ≡ n → joined (Ok (Move.Keeps g x)) t ≡ kept (walk_of p t) x
    unfolding joined kept keeping
    kept_in g h e t k = rw (lt-ltb t.count 64 (rw k h)) (e (keep t (record { id = x })))

    pub confirming-on : (r : Result Move End) (l : ℕ) (q : Place) → length q.path ≡ 16 → l ≡ length (id_of x) → p.depth < 8 * l
        → ((t : Table) → walk_of q t ≡ holding (walk_of p t) x) → ((t : Table) → joined r t ≡ going Mine (walk_of q t))
        → (t : Table) → t.count ≡ n → joined r t ≡ confirming (walk_of p t) x
    unfolding confirming
    confirming-on r l q b el h eq e t k = e t ∙ rw (eq t, ← el, lt-ltb p.depth (8 * l) h)

  module _ (n : ℕ) (held : Bool) (none : Id) (q : Place) (r : Result Move End) (l : length q.path ≡ 16)
      (en : none ≡ no_id) (eq : (t : Table) → walk_of q t ≡ holding (walk_of p t) none) where
    pub settled-yes : held ≡ true → ((t : Table) → t.count ≡ n → joined r t ≡ kept (walk_of q t) p.candidate)
        → (t : Table) → t.count ≡ n → joined r t ≡ settled (walk_of p t) held
    unfolding settled
    settled-yes b e t k = e t k ∙ rw (eq t, en, b)

    pub settled-no : held ≡ false → ((t : Table) → joined r t ≡ descend (walk_of q t)) → (t : Table) → t.count ≡ n
        → joined r t ≡ settled (walk_of p t) held
    unfolding settled
    settled-no b e t k = e t ∙ rw (eq t, en, b)
