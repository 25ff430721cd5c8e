-- What meets the premises: each theorem with a premise, applied to values that meet it.
use mathlib.Core.Bool.{true, false}
use mathlib.Core.List.{[], ◌∷◌}
use mathlib.Core.Path.{◌≡◌}
use native.Mathlib.Omega.{arith}
use lib.Dec.{lit<}
use lib.ListN.{get_or}
use Rattle.paper.specs.Answers.{steps, apart, below}
use Rattle.paper.specs.Frame.{le, number}
use Rattle.paper.specs.Hearing.{bit, bits_of}
use Rattle.paper.proofs.Bits.{bits_at}
use Rattle.paper.proofs.Addresses.{below-nil, below-cons}
use Rattle.paper.proofs.Words.{number-le, le-number}

pub number-le-met : number (0x78 ∷ 0x56 ∷ 0x34 ∷ 0x12 ∷ []) ≡ 0x12345678
unfolding le
number-le-met = number-le 4 0x12345678 (lit< tt)

pub le-number-met : le 4 0x12345678 ≡ 0x78 ∷ 0x56 ∷ 0x34 ∷ 0x12 ∷ []
unfolding number
le-number-met = le-number (0x78 ∷ 0x56 ∷ 0x34 ∷ 0x12 ∷ [])
    (omega arith, (omega arith, (omega arith, (omega arith, tt))))

-- Bit 10 of C1 05: bit 2 of byte 1.
pub bits-at-met : get_or (bits_of (0xC1 ∷ 0x05 ∷ [])) 10 false ≡ true
unfolding bit
bits-at-met = bits_at (0xC1 ∷ 0x05 ∷ []) 10 (omega arith)

-- Capacity 5, erase_size 2.
pub below-cons-met : below 2 5 2 ≡ 2 ∷ 4 ∷ []
unfolding below steps apart
below-cons-met = below-cons 2 5 2 (omega arith) (omega arith)

pub below-nil-met : below 2 5 6 ≡ []
below-nil-met = below-nil 2 5 6 (omega arith)
