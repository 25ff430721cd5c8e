-- Lemmas for the functions that load and save a turn's numbers: one for each path through the code.
use Prim.Native.Nat.{ℕ, ◌+◌, ◌≤◌}
use mathlib.Core.List.{List, [], ◌∷◌, ◌++◌}
use mathlib.Core.Path.{◌≡◌, refl, ◌∙◌}
use native.Mathlib.Omega.{arith}
use lib.ListN.{length, take, drop}
use Rattle.paper.specs.Frame.{le, byte, field}
use Rattle.paper.proofs.Fields.{Put, num, one, behind}
use Rattle.image.specs.declared.Info.{Info}
use Rattle.image.specs.InfoBytes.{saved_info, loaded_info}
use Rattle.image.proofs.info_bytes.Ways.{info-length}
use Rattle.client.specs.declared.Reset.{Reset}
use Rattle.host_turn.specs.declared.Flat.{Flat}
use Rattle.host_turn_bytes.specs.TurnBytes.{flag, flagged, tags, saved_reset, work, saved_flat, loaded_reset}
use Rattle.host_turn_bytes.specs.TurnBytes.{loaded_flat}

pub reset-length : (z : Reset) → length (saved_reset z) ≡ 3
unfolding saved_reset
reset-length z = refl

pub work-length : (f : Flat) → length (work f) ≡ 16
unfolding work saved_reset le
work-length f = refl

module _ (at : ℕ) (b : List ℕ) where
  pub flat-loaded : (n address offset : ℕ) (i : Info) (z : Reset) → n ≡ field (at + 8) 8 b → i ≡ loaded_info (at + 16) b
      → address ≡ field (at + 34) 4 b
      → offset ≡ field (at + 38) 8 b → z ≡ loaded_reset (at + 47) b
      → ◌≡◌ {A = Flat}
      (record {
        turn = byte at b;
        kind = byte (at + 1) b;
        search = byte (at + 2) b;
        given = flagged (byte (at + 3) b);
        step = byte (at + 4) b;
        other = flagged (byte (at + 5) b);
        job = byte (at + 6) b;
        purpose = byte (at + 7) b;
        size = n;
        info = i;
        address = address;
        offset = offset;
        retries = byte (at + 46) b;
        reset = z;
      })
      (loaded_flat at b)
  unfolding loaded_flat
  flat-loaded n address offset i z e₁ e₂ e₃ e₄ e₅ = rw (e₁, e₂, e₃, e₄, e₅)

module _ (at : ℕ) (b d₁ d₂ d₃ d₄ : List ℕ) where
  pub put-tags : (f : Flat) (g o : ℕ) → g ≡ flag f.given → o ≡ flag f.other
      → d₁ ≡ take at b ++ (f.turn ∷ f.kind ∷ f.search ∷ g ∷ f.step ∷ o ∷ f.job ∷ f.purpose ∷ [])
      ++ drop (at + 8) b
      → d₁ ≡ take at b ++ tags f ++ drop (at + 8) b
  unfolding tags
  put-tags f g o eg eo e = e ∙ rw (eg, eo)

  pub put-reset : (z : Reset) (l g : ℕ) → at + 3 ≤ length b → l ≡ flag z.bootloader → g ≡ flag z.given
      → d₁ ≡ take at b ++ (l ∷ []) ++ drop (at + 1) b
      → d₂ ≡ take (at + 1) d₁ ++ (g ∷ []) ++ drop (at + 1 + 1) d₁
      → d₃ ≡ take (at + 2) d₂ ++ (z.baud ∷ []) ++ drop (at + 2 + 1) d₂
      → d₃ ≡ take at b ++ saved_reset z ++ drop (at + 3) b
  unfolding saved_reset
  put-reset z l g room el eg e₁ e₂ e₃ =
      let r : at ≤ length b = omega arith in
      (behind r (behind r (one e₁) (one e₂)) (one e₃)).holds ∙ rw (el, eg)

  pub put-work : (f : Flat) → at + 16 ≤ length b → d₁ ≡ take at b ++ le 4 f.address ++ drop (at + 4) b
      → d₂ ≡ take (at + 4) d₁ ++ le 8 f.offset ++ drop (at + 4 + 8) d₁
      → d₃ ≡ take (at + 12) d₂ ++ (f.retries ∷ []) ++ drop (at + 12 + 1) d₂
      → d₄ ≡ take (at + 13) d₃ ++ saved_reset f.reset ++ drop (at + 13 + 3) d₃
      → d₄ ≡ take at b ++ work f ++ drop (at + 16) b
  unfolding work
  put-work f room e₁ e₂ e₃ e₄ =
      let r : at ≤ length b = omega arith in
      let last : Put (at + 13) 3 (saved_reset f.reset) d₃ d₄ =
      record { sized = reset-length f.reset; holds = e₄ } in
      (behind r (behind r (behind r (num 4 f.address e₁) (num 8 f.offset e₂)) (one e₃)) last).holds

  pub put-flat : (f : Flat) → at + 50 ≤ length b → d₁ ≡ take at b ++ tags f ++ drop (at + 8) b
      → d₂ ≡ take (at + 8) d₁ ++ le 8 f.size ++ drop (at + 8 + 8) d₁
      → d₃ ≡ take (at + 16) d₂ ++ saved_info f.info ++ drop (at + 16 + 18) d₂
      → d₄ ≡ take (at + 34) d₃ ++ work f ++ drop (at + 34 + 16) d₃ → d₄ ≡ take at b ++ saved_flat f ++ drop (at + 50) b
  unfolding saved_flat tags
  put-flat f room e₁ e₂ e₃ e₄ =
      let r : at ≤ length b = omega arith in
      let first : Put at 8 (tags f) b d₁ = record { sized = refl; holds = e₁ } in
      let third : Put (at + 16) 18 (saved_info f.info) d₂ d₃ = record { sized = info-length f.info; holds = e₃ } in
      let fourth : Put (at + 34) 16 (work f) d₃ d₄ = record { sized = work-length f; holds = e₄ } in
      (behind r (behind r (behind r first (num 8 f.size e₂)) third) fourth).holds
