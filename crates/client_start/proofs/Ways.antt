-- How a start begins, with the facts known there as its premises.
use mathlib.Core.Bool.{Bool, false}
use Prim.Native.Nat.{ℕ}
use mathlib.Core.Path.{◌≡◌}
use Rattle.std.specs.Prelude.{Some}
use Rattle.ids.specs.declared.Id.{Id}
use Rattle.walk.specs.declared.Walk.{Walk}
use Rattle.walk.proofs.Ways.{begin-none}
use Rattle.walk.specs.Moves.{begin}
use Rattle.client.specs.declared.Phase.{Phase}
use Rattle.client.specs.declared.Turn.TheVariants.{Ready}
use Rattle.client.specs.declared.Client.{Client}
use Rattle.client.specs.declared.Front.{Front}
use Rattle.client.specs.declared.Opening.{Opening}
use Rattle.client.specs.declared.Says.TheVariants.{Onward}
use Rattle.client.specs.declared.Started.{Started}
use Rattle.client.specs.Clients.{begun, running}
use Rattle.client.specs.Verdicts.{client_of, started_of}
use Rattle.client_start.specs.Start.{starts}

-- A walk that begins under the empty prefix is all zero.
pub ruleset begins = (begin-none)

-- The opening r gives the answer d, for the client of front f with any walk.
abbrev Opens : Front → Opening → (Client → Started) → Type 0
Opens f r d = (w : Walk) → started_of r w ≡ d (client_of f w)

module _ (f : Front) (b : Bool) (eb : b ≡ running f.turn) where
  pub starts-now : (g : Front) (p : Phase) (x y : Id) (bits : ℕ) → b ≡ false
      → ((w : Walk) → client_of g w ≡ begun (client_of f w) (Ready p) x bits w)
      → Opens f (record { says = Onward; front = g; begins = Some y }) (λ c. starts c p x bits (begin y))
  unfolding starts
  starts-now g p x y bits h e w = rw (← eb, h, e (begin y))
