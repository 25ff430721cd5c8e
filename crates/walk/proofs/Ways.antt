-- A lemma for each way through the walk's functions, with the facts known there as its premises.
use Prim.Native.Nat.{ℕ, zero, suc, ◌+◌, ◌-◌, ◌*◌, ◌<◌, ◌≤◌}
use mathlib.Core.Bool.{Bool, true, false, not, cond}
use mathlib.Core.List.{List}
use mathlib.Core.Path.{◌≡◌, refl, sym, ◌∙◌, ap}
use native.Mathlib.Omega.{arith}
use lib.ListN.{length, set, get_or, replicate}
use lib.Seq.{set_out}
use borrow.Author.Tests.{le-leb, lt-leb, eq-eqb, ne_eqb, not-true, not-false}
use Rattle.ids.specs.declared.Id.{Id}
use Rattle.ids.specs.Ids.{set_bit, id_of, no_id}
use Rattle.ids.specs.Paths.{cut}
use Rattle.walk_table.specs.declared.Table.{Table}
use Rattle.walk_table.specs.Rows.{no_table}
use Rattle.walk.specs.declared.Walk.{Walk}
use Rattle.walk.specs.declared.Place.{Place}
use Rattle.walk.specs.declared.Phase.{Phase}
use Rattle.walk.specs.declared.Phase.TheVariants.{Asked, Mine, Other, Leaving}
use Rattle.walk.specs.declared.Ask.{Ask}
use Rattle.walk.specs.Moves.{walk_of, standing, no_walk, begin, mark_at, mark, lower, raise, turn, climb, nobody, child}
use Rattle.walk.specs.Moves.{next_bit, asks}

pub no-place-is : (x : Id) → x ≡ no_id
    → walk_of (record { path = replicate 16 0; depth = 0; marks = replicate 128 0; candidate = x }) no_table ≡ no_walk
unfolding no_walk
no-place-is x f = rw f

pub begin-is : (p : Place) (x : Id) (n : ℕ) → walk_of p no_table ≡ no_walk → n ≡ length (id_of x)
    → walk_of (record { path = x.bytes; depth = 8 * n; marks = p.marks; candidate = p.candidate }) no_table ≡ begin x
unfolding begin
begin-is p x n e f = rw f (ap (λ (w : Walk). standing w x.bytes (8 * length (id_of x)) w.place.marks) e)

-- A walk under the empty prefix begins all zero.
pub begin-none : begin no_id ≡ no_walk
unfolding begin no_walk no_id
begin-none = refl

-- The mark of the last level.
module _ (marks : List ℕ) where
  pub mark-top : (d : ℕ) → d ≡ 0 → 0 ≡ mark_at marks d
  mark-top d e = rw e

  pub mark-in : (d : ℕ) → (d ≡ 0 → ⊥) → get_or marks (d - 1) 0 ≡ mark_at marks d
  mark-in zero h = absurd (h refl)
  mark-in (suc d) h = let e : suc d - 1 ≡ d = omega arith in rw e

  -- Where the mark is not 0 there is a level.
  pub deep : (d m k : ℕ) → m ≡ mark_at marks d → m ≡ k → 0 < k → 0 < d
  deep zero m k e f h = absurd (omega arith)
  deep (suc d) m k e f h = omega arith

-- The climb. The invariant of its loop: the climb from d levels ends where the one from the start s does.
abbrev pub at : List ℕ → ℕ → List ℕ → Id → Table → Walk
at path d marks x t = walk_of (record { path = path; depth = d; marks = marks; candidate = x }) t

module _ (path marks : List ℕ) (d m : ℕ) (x : Id) (em : m ≡ mark_at marks d) where
  pub climb-on : (s : Place) (q : List ℕ)
      → ((t : Table) → climb d (at path d marks x t) ≡ climb s.depth (walk_of s t)) → m ≡ 2 → q ≡ cut path (d - 1)
      → (t : Table) → climb (d - 1) (at q (d - 1) (set marks (d - 1) 0) x t) ≡ climb s.depth (walk_of s t)
  unfolding climb raise mark
  climb-on s q go f e t =
      let h : 0 < d = deep marks d m 2 em f (omega arith) in
      let z : d ≡ suc (d - 1) = omega arith in
      rw e (
      ap (λ (b : Bool). cond b (climb (d - 1) (raise (at path d marks x t))) (at path d marks x t))
      (sym (eq-eqb (mark_at marks d) 2 (sym em ∙ f)))
      ∙ ap (λ (n : ℕ). climb n (at path d marks x t)) (sym z)
      ∙ go t
      )

  pub climb-less : m ≡ 2 → d - 1 < d
  climb-less f = let h : 0 < d = deep marks d m 2 em f (omega arith) in omega arith

  stay : (n : ℕ) (t : Table) → (m ≡ 2 → ⊥) → climb n (at path d marks x t) ≡ at path d marks x t
  unfolding climb mark
  stay zero t f = refl
  stay (suc n) t f = rw (← em, ne_eqb m 2 f)

  pub climb-end : (s : Place) → ((t : Table) → climb d (at path d marks x t) ≡ climb s.depth (walk_of s t))
      → (m ≡ 2 → ⊥) → (t : Table) → at path d marks x t ≡ climb s.depth (walk_of s t)
  climb-end s go f t = sym (stay d t f) ∙ go t

module _ (p : Place) where
  pub mark-is : (m : ℕ) → m ≡ mark_at p.marks p.depth → (t : Table) → m ≡ mark (walk_of p t)
  unfolding mark
  mark-is m e t = e

  pub lower-is : (t : Table) → walk_of
      (record { path = p.path; depth = p.depth + 1; marks = set p.marks p.depth 1; candidate = p.candidate })
      t ≡ lower (walk_of p t)
  unfolding lower
  lower-is t = refl

  pub turn_is : (q : List ℕ) → q ≡ set_bit p.path (p.depth - 1) → (t : Table)
      → walk_of (record {
        path = q;
        depth = p.depth;
        marks = set p.marks (p.depth - 1) 2;
        candidate = p.candidate;
      }) t ≡ turn (walk_of p t)
  unfolding turn
  turn_is q e t = rw e

  module _ (b : Bool) where
    pub child-zero : not b ≡ true → (t : Table)
        → ◌≡◌ {A = Ask} (record { bits = p.path; count = p.depth + 1 }) (child (walk_of p t) b)
    unfolding child
    child-zero e t = rw (not-true b e)

    pub child-over : length p.path ≡ 16 → not b ≡ false → 128 ≤ p.depth → (t : Table)
        → ◌≡◌ {A = Ask} (record { bits = p.path; count = p.depth + 1 }) (child (walk_of p t) b)
    unfolding child set_bit
    child-over l e h t = rw (not-false b e)
        (ap (λ (q : List ℕ). record { bits = q; count = p.depth + 1 }) (sym (set_out p.path _ _ (omega arith))))

    pub child-one : (q : List ℕ) → not b ≡ false → q ≡ set_bit p.path p.depth → (t : Table)
        → ◌≡◌ {A = Ask} (record { bits = q; count = p.depth + 1 }) (child (walk_of p t) b)
    unfolding child
    child-one q e f t = rw (f, not-false b e)

  module _ (s : Phase) where
    pub asks-deep : (r : Ask) → 128 < p.depth → r ≡ nobody → (t : Table) → r ≡ asks (walk_of p t) s
    unfolding asks
    asks-deep r h e t = e ∙ rw (lt-leb p.depth 128 h)

    module _ (d : p.depth ≤ 128) where
      pub asks-path : s ≡ Asked → (t : Table)
          → ◌≡◌ {A = Ask} (record { bits = p.path; count = p.depth }) (asks (walk_of p t) s)
      unfolding asks
      asks-path e t = rw (le-leb p.depth 128 d, e)

      pub asks-mine : (b : Bool) (r : Ask) → s ≡ Mine → b ≡ next_bit (walk_of p no_table)
          → ((t : Table) → r ≡ child (walk_of p t) b) → (t : Table) → r ≡ asks (walk_of p t) s
      unfolding asks
      asks-mine b r ep eb e t = e t ∙ rw (le-leb p.depth 128 d, ep, eb)

      pub asks-other : (good b : Bool) (r : Ask) → s ≡ Other good → b ≡ next_bit (walk_of p no_table)
          → ((t : Table) → r ≡ child (walk_of p t) (not b)) → (t : Table) → r ≡ asks (walk_of p t) s
      unfolding asks
      asks-other good b r ep eb e t = e t ∙ rw (le-leb p.depth 128 d, ep, eb)

      pub asks-nobody : (r : Ask) → s ≡ Leaving → r ≡ nobody → (t : Table) → r ≡ asks (walk_of p t) s
      unfolding asks
      asks-nobody r ep e t = e ∙ rw (le-leb p.depth 128 d, ep)
