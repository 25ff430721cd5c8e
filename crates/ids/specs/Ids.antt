-- The bits of a byte as arithmetic, and the id that a value of the code holds.
use Rattle.std.specs.Prelude.{ℕ, ◌+◌, ◌-◌, ◌*◌, ◌/◌, ◌%◌, ◌^◌, List, ◌++◌, length, get_or, take, set, replicate}
use Rattle.ids.specs.declared.Id.{Id}

-- Bit j of a number, and the number with that bit set.
abbrev pub bit_of : ℕ → ℕ → ℕ
bit_of x j = x / 2 ^ j % 2

abbrev pub with_one : ℕ → ℕ → ℕ
with_one x j = (x / 2 ^ j / 2 * 2 + 1) * 2 ^ j + x % 2 ^ j

unfoldable pub set_bit : List ℕ → ℕ → List ℕ
set_bit bytes k = set bytes (k / 8) (with_one (get_or bytes (k / 8) 0) (k % 8))

-- The id that a value holds.
abbrev pub id_of : Id → List ℕ
id_of x = take x.len x.bytes

unfoldable pub no_id : Id
no_id = record { bytes = replicate 16 0; len = 0 }

-- The value that holds an id of at most 16 bytes.
unfoldable pub id_from : List ℕ → Id
id_from id = record { bytes = id ++ replicate (16 - length id) 0; len = length id }
