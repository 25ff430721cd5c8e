-- A Select's bits, and how many bytes hold them.
use Rattle.std.specs.Prelude.{ℕ, ◌+◌, ◌/◌, false, List, ◌++◌, take, replicate}
use Rattle.paper.specs.Hearing.{Prefix, bits_of}

-- The first count bits of 16 bytes, followed by zeros.
abbrev pub asked : List ℕ → ℕ → Prefix
asked bits count = take count (bits_of bits ++ replicate 127 false)

abbrev pub bytes_for : ℕ → ℕ
bytes_for count = (count + 7) / 8
