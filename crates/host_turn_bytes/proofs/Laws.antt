-- A turn's numbers loaded from bytes: from those that were saved, from any bytes, and from zero bytes.
use Prim.Native.Nat.{ℕ, ◌+◌}
use mathlib.Core.Bool.{Bool, true, false}
use mathlib.Core.List.{List, [], ◌∷◌}
use mathlib.Core.Path.{◌≡◌, refl}
use native.Mathlib.Omega.{arith}
use lib.ListN.{length, take, drop, replicate}
use Rattle.paper.specs.Frame.{le}
use Rattle.paper.proofs.Fields.{spread, field_at, byte-in, byte_at, byte-below, field_below}
use Rattle.paper.proofs.Words.{Bytes, le-length}
use Rattle.image.specs.InfoBytes.{no_info, geometry, saved_info}
use Rattle.image.proofs.info_bytes.Ways.{info-length}
use Rattle.image.proofs.info_bytes.Laws.{info-back, info-fits}
use Rattle.client.specs.declared.Reset.{Reset}
use Rattle.host_turn.specs.declared.Flat.{Flat}
use Rattle.host_turn.specs.Turns.{no_reset, selecting, FlatFits}
use Rattle.host_turn_bytes.specs.TurnBytes.{flag, flagged, tags, saved_reset, work, saved_flat, loaded_reset}
use Rattle.host_turn_bytes.specs.TurnBytes.{loaded_flat}
use Rattle.host_turn_bytes.proofs.Ways.{reset-length, work-length}

pub flag-back : (b : Bool) → flagged (flag b) ≡ b
flag-back true = refl
flag-back false = refl

pub flat-length : (f : Flat) → length (saved_flat f) ≡ 50
unfolding saved_flat tags saved_info geometry work saved_reset le
flat-length f = refl

module _ (at : ℕ) (b : List ℕ) where
  reset-back : (z : Reset) → take 3 (drop at b) ≡ saved_reset z → loaded_reset at b ≡ z
  unfolding saved_reset loaded_reset
  reset-back z e =
      rw (
        byte_at at 3 (saved_reset z) b (omega arith) e,
        byte-in at 3 1 (saved_reset z) b (omega arith) e,
        byte-in at 3 2 (saved_reset z) b (omega arith) e,
        flag-back z.bootloader,
        flag-back z.given,
      )

module _ (at : ℕ) (b : List ℕ) where
  -- What is loaded from bytes fits.
  pub flat-fits : Bytes b → FlatFits (loaded_flat at b)
  unfolding loaded_flat loaded_reset
  flat-fits h = record {
    turn = byte-below b at h;
    kind = byte-below b (at + 1) h;
    search = byte-below b (at + 2) h;
    step = byte-below b (at + 4) h;
    job = byte-below b (at + 6) h;
    purpose = byte-below b (at + 7) h;
    size = field_below 8 (at + 8) b h;
    info = info-fits (at + 16) b h;
    address = field_below 4 (at + 34) b h;
    offset = field_below 8 (at + 38) b h;
    retries = byte-below b (at + 46) h;
    baud = byte-below b (at + 47 + 2) h;
  }

  -- Loading returns what was saved.
  pub flat_back : (f : Flat) → FlatFits f → take 50 (drop at b) ≡ saved_flat f → loaded_flat at b ≡ f
  unfolding saved_flat tags work loaded_flat
  flat_back f h e =
      let s = spread at b ((8, le 8 f.size) ∷ (18, saved_info f.info) ∷ (16, work f) ∷ []) (tags f) 8 refl
      (le-length 8 f.size, (info-length f.info, (work-length f, tt))) e in
      let w = spread (at + 34) b ((8, le 8 f.offset) ∷ (1, f.retries ∷ []) ∷ (3, saved_reset f.reset) ∷ [])
      (le 4 f.address) 4 (le-length 4 f.address)
      (le-length 8 f.offset, (refl, (reset-length f.reset, tt))) s.1.1.1.0 in
      rw (
        byte_at at 8 (tags f) b (omega arith) s.0,
        byte-in at 8 1 (tags f) b (omega arith) s.0,
        byte-in at 8 2 (tags f) b (omega arith) s.0,
        byte-in at 8 3 (tags f) b (omega arith) s.0,
        byte-in at 8 4 (tags f) b (omega arith) s.0,
        byte-in at 8 5 (tags f) b (omega arith) s.0,
        byte-in at 8 6 (tags f) b (omega arith) s.0,
        byte-in at 8 7 (tags f) b (omega arith) s.0,
        flag-back f.given,
        flag-back f.other,
        field_at (at + 8) 8 f.size b h.size s.1.0,
        info-back (at + 16) b f.info h.info s.1.1.0,
        field_at (at + 34) 4 f.address b h.address w.0,
        ← far at 4,
        ← far at 12,
        ← far at 13,
        field_at (at + 34 + 4) 8 f.offset b h.offset w.1.0,
        byte_at (at + 34 + 12) 1 (f.retries ∷ []) b (omega arith) w.1.1.0,
        reset-back (at + 34 + 13) b f.reset w.1.1.1.0,
      )
    where
      far : (at n : ℕ) → at + 34 + n ≡ at + (34 + n)
      far at n = omega arith

pub flat-zero : saved_flat (selecting 0 0 false 0 false) ≡ replicate 50 0
unfolding saved_flat tags saved_info geometry work saved_reset le selecting no_info no_reset
flat-zero = refl
