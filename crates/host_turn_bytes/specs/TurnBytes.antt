-- A turn's numbers as 50 bytes, each in its width, lowest byte first; and the numbers read from a place in some bytes.
use Rattle.std.specs.Prelude.{ℕ, ◌+◌, Bool, cond, List, [], ◌∷◌, ◌++◌, eqb}
use Rattle.paper.specs.Frame.{le, byte, field}
use Rattle.image.specs.InfoBytes.{saved_info, loaded_info}
use Rattle.client.specs.declared.Reset.{Reset}
use Rattle.host_turn.specs.declared.Flat.{Flat}

abbrev pub flag : Bool → ℕ
flag b = cond b 1 0

-- A byte other than 1 is read as false.
abbrev pub flagged : ℕ → Bool
flagged n = eqb n 1

unfoldable pub tags : Flat → List ℕ
tags f = f.turn ∷ f.kind ∷ f.search ∷ flag f.given ∷ f.step ∷ flag f.other ∷ f.job ∷ f.purpose ∷ []

unfoldable pub saved_reset : Reset → List ℕ
saved_reset z = (flag z.bootloader ∷ []) ++ (flag z.given ∷ []) ++ (z.baud ∷ [])

unfoldable pub work : Flat → List ℕ
work f = le 4 f.address ++ le 8 f.offset ++ (f.retries ∷ []) ++ saved_reset f.reset

unfoldable pub saved_flat : Flat → List ℕ
saved_flat f = tags f ++ le 8 f.size ++ saved_info f.info ++ work f

unfoldable pub loaded_reset : ℕ → List ℕ → Reset
loaded_reset at b = record {
  bootloader = flagged (byte at b);
  given = flagged (byte (at + 1) b);
  baud = byte (at + 2) b;
}

unfoldable pub loaded_flat : ℕ → List ℕ → Flat
loaded_flat at b = record {
  turn = byte at b;
  kind = byte (at + 1) b;
  search = byte (at + 2) b;
  given = flagged (byte (at + 3) b);
  step = byte (at + 4) b;
  other = flagged (byte (at + 5) b);
  job = byte (at + 6) b;
  purpose = byte (at + 7) b;
  size = field (at + 8) 8 b;
  info = loaded_info (at + 16) b;
  address = field (at + 34) 4 b;
  offset = field (at + 38) 8 b;
  retries = byte (at + 46) b;
  reset = loaded_reset (at + 47) b;
}
