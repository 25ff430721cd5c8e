-- The device information as 18 bytes, each field in its width, lowest byte first; and read back from a place of some
-- bytes.
use Rattle.std.specs.Prelude.{ℕ, ◌+◌, ◌<◌, ◌^◌, List, [], ◌∷◌, ◌++◌}
use Rattle.paper.specs.Frame.{le, byte, field}
use Rattle.image.specs.declared.Info.{Info}

-- Every field zero.
unfoldable pub no_info : Info
no_info = record {
  capacity = 0;
  erase_size = 0;
  boot_version = 0;
  app_version = 0;
  mode = 0;
  boot_baud = 0;
  compat = 0;
  max_payload = 0;
}

unfoldable pub geometry : Info → List ℕ
geometry i = le 4 i.capacity ++ le 2 i.erase_size ++ le 2 i.boot_version ++ le 2 i.app_version

unfoldable pub saved_info : Info → List ℕ
saved_info i = geometry i ++ (i.mode ∷ []) ++ (i.boot_baud ∷ []) ++ le 4 i.compat ++ le 2 i.max_payload

unfoldable pub loaded_info : ℕ → List ℕ → Info
loaded_info at b = record {
  capacity = field at 4 b;
  erase_size = field (at + 4) 2 b;
  boot_version = field (at + 6) 2 b;
  app_version = field (at + 8) 2 b;
  mode = byte (at + 10) b;
  boot_baud = byte (at + 11) b;
  compat = field (at + 12) 4 b;
  max_payload = field (at + 16) 2 b;
}

-- The bounds that the types of the fields give.
pub record InfoFits (i : Info) : Type 0 where
  pub capacity : i.capacity < 2 ^ 32
  pub erase : i.erase_size < 2 ^ 16
  pub boot : i.boot_version < 2 ^ 16
  pub app : i.app_version < 2 ^ 16
  pub mode : i.mode < 2 ^ 8
  pub baud : i.boot_baud < 2 ^ 8
  pub compat : i.compat < 2 ^ 32
  pub payload : i.max_payload < 2 ^ 16
