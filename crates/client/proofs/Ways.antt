-- Lemmas for the ways through the client's functions that the check does not find alone, with the facts known there as
-- their premises.
use Prim.Native.Nat.{ℕ}
use mathlib.Core.Bool.{false}
use mathlib.Core.Path.{◌≡◌, ◌∙◌}
use Rattle.std.specs.Prelude as Std
use Rattle.ids.specs.declared.Id.{Id}
use Rattle.ids.specs.Ids.{no_id}
use Rattle.walk_table.specs.declared.Table.{Table}
use Rattle.walk_table.specs.Rows.{no_table}
use Rattle.walk.specs.declared.Walk.{Walk}
use Rattle.walk.specs.declared.Place.{Place}
use Rattle.walk.specs.Moves.{walk_of, no_walk}
use Rattle.client.specs.declared.Phase.{Phase}
use Rattle.client.specs.declared.Turn.{Turn}
use Rattle.client.specs.declared.Turn.TheVariants.{Idle, Ready, Waiting}
use Rattle.client.specs.declared.Says.TheVariants.{Onward}
use Rattle.client.specs.declared.Front.{Front}
use Rattle.client.specs.declared.Change.{Change}
use Rattle.client.specs.Clients.{on_turn, begun, turned, idle, holding, cleared}
use Rattle.client.specs.Clients.{onward}
use Rattle.client.specs.Verdicts.{client_of, changed, given, told_of}

-- The choice by turn, where the turn is known.
module _ {A : Type 0} (t : Turn) (a : A) (f g : Phase → A) where
  pub at-idle : t ≡ Idle → a ≡ on_turn t a f g
  at-idle e = rw e

  pub at_ready : (p : Phase) → t ≡ Ready p → f p ≡ on_turn t a f g
  at_ready p e = rw e

  pub at-waiting : (p : Phase) → t ≡ Waiting p → g p ≡ on_turn t a f g
  at-waiting p e = rw e

-- Fronts, and the verdicts and openings decided on them.
pub no-walk-is : (p : Place) (t : Table) (w : Walk) → walk_of p no_table ≡ no_walk → t ≡ no_table → w ≡ walk_of p t
    → w ≡ no_walk
no-walk-is p t w e f g = g ∙ rw f e

module _ (f g : Front) where
  pub idle-is : (x : Id) → x ≡ no_id → ((w : Walk) → client_of g w ≡ begun (client_of f w) Idle x 0 w) → (w : Walk)
      → client_of g no_walk ≡ idle (client_of f w)
  unfolding idle
  idle-is x e h w = rw e at h no_walk

  pub cleared-is : (x : Id) → x ≡ no_id → ((w : Walk) → client_of g w ≡ holding (client_of f w) false x) → (w : Walk)
      → client_of g w ≡ cleared (client_of f w)
  unfolding cleared
  cleared-is x e h w = rw e at h w

  pub onward-is : (p : Phase) (x : Id) (change : Change) (at : ℕ) → x ≡ no_id
      → ((w : Walk) → client_of g w ≡ turned (client_of f w) (Ready p)) → (w : Walk) → given change w ≡ no_table
      → told_of (record { says = Onward; front = g; change = change; rest = at; progress = Std.None; id = x }) w
      ≡ onward (client_of f w) p (changed change w) at
  unfolding onward
  onward-is p x change at k h w e = rw (k, e, h (changed change w))
