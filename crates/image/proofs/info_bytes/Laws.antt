-- The device information loaded from bytes: it is what was saved there, and its fields are within their bounds.
use Prim.Native.Nat.{ℕ, ◌+◌}
use mathlib.Core.List.{List, [], ◌∷◌}
use mathlib.Core.Path.{◌≡◌, refl}
use native.Mathlib.Omega.{arith}
use lib.ListN.{take, drop}
use Rattle.paper.specs.Frame.{le}
use Rattle.paper.proofs.Fields.{spread, field_at, byte_at, byte-below, field_below}
use Rattle.paper.proofs.Words.{Bytes, le-length}
use Rattle.image.specs.declared.Info.{Info}
use Rattle.image.specs.InfoBytes.{geometry, saved_info, loaded_info, InfoFits}
use Rattle.image.proofs.info_bytes.Ways.{geometry-length}

module _ (at : ℕ) (b : List ℕ) where
  pub info-back : (i : Info) → InfoFits i → take 18 (drop at b) ≡ saved_info i → loaded_info at b ≡ i
  unfolding saved_info geometry loaded_info
  info-back i h e =
      let s = spread at b ((1, i.mode ∷ []) ∷ (1, i.boot_baud ∷ []) ∷ (4, le 4 i.compat)
      ∷ (2, le 2 i.max_payload) ∷ []) (geometry i) 10 (geometry-length i)
      (refl, (refl, (le-length 4 i.compat, (le-length 2 i.max_payload, tt)))) e in
      let g = spread at b ((2, le 2 i.erase_size) ∷ (2, le 2 i.boot_version) ∷ (2, le 2 i.app_version)
      ∷ []) (le 4 i.capacity) 4 (le-length 4 i.capacity)
      (le-length 2 i.erase_size, (le-length 2 i.boot_version, (le-length 2 i.app_version, tt))) s.0 in
      rw (
        field_at at 4 i.capacity b h.capacity g.0,
        field_at (at + 4) 2 i.erase_size b h.erase g.1.0,
        field_at (at + 6) 2 i.boot_version b h.boot g.1.1.0,
        field_at (at + 8) 2 i.app_version b h.app g.1.1.1.0,
        byte_at (at + 10) 1 (i.mode ∷ []) b (omega arith) s.1.0,
        byte_at (at + 11) 1 (i.boot_baud ∷ []) b (omega arith) s.1.1.0,
        field_at (at + 12) 4 i.compat b h.compat s.1.1.1.0,
        field_at (at + 16) 2 i.max_payload b h.payload s.1.1.1.1.0,
      )

  -- Fields loaded from any bytes are within their bounds.
  pub info-fits : Bytes b → InfoFits (loaded_info at b)
  unfolding loaded_info
  info-fits h = record {
    capacity = field_below 4 at b h;
    erase = field_below 2 (at + 4) b h;
    boot = field_below 2 (at + 6) b h;
    app = field_below 2 (at + 8) b h;
    mode = byte-below b (at + 10) h;
    baud = byte-below b (at + 11) h;
    compat = field_below 4 (at + 12) b h;
    payload = field_below 2 (at + 16) b h;
  }
