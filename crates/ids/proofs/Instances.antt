-- What meets the premises: each theorem with a premise, applied to values that meet it.
use mathlib.Core.Bool.{true, false}
use mathlib.Core.List.{[], ◌∷◌}
use mathlib.Core.Path.{◌≡◌}
use native.Mathlib.Omega.{arith}
use Rattle.paper.specs.Hearing.{bit}
use Rattle.ids.specs.Ids.{set_bit}
use Rattle.ids.proofs.Laws.{set_same, set_other}

-- Bit 10 of two bytes is bit 2 of byte 1.
pub set-same-met : bit (0xC1 ∷ 0x05 ∷ []) 10 ≡ true
unfolding set_bit
set-same-met = set_same (0xC1 ∷ 0x01 ∷ []) 10 (omega arith)

pub set-other-met : (bit (0xC1 ∷ 0x05 ∷ []) 8 ≡ true) × (bit (0xC1 ∷ 0x05 ∷ []) 9 ≡ false)
unfolding set_bit bit
set-other-met = (
  set_other (0xC1 ∷ 0x01 ∷ []) 10 8 (λ e. absurd (omega arith)),
  set_other (0xC1 ∷ 0x01 ∷ []) 10 9 (λ e. absurd (omega arith)),
)
