-- Lemmas for each path through loading and saving the device information, from the facts that hold there.
use Prim.Native.Nat.{ℕ, ◌+◌, ◌≤◌}
use mathlib.Core.List.{List, [], ◌∷◌, ◌++◌}
use mathlib.Core.Path.{◌≡◌, refl}
use native.Mathlib.Omega.{arith}
use lib.ListN.{length, take, drop}
use Rattle.paper.specs.Frame.{le}
use Rattle.paper.proofs.Fields.{Put, num, one, behind}
use Rattle.image.specs.declared.Info.{Info}
use Rattle.image.specs.InfoBytes.{geometry, saved_info}

pub geometry-length : (i : Info) → length (geometry i) ≡ 10
unfolding geometry le
geometry-length i = refl

pub info-length : (i : Info) → length (saved_info i) ≡ 18
unfolding saved_info geometry le
info-length i = refl

module _ (at : ℕ) (b d₁ d₂ d₃ d₄ : List ℕ) where
  pub put-geometry : (i : Info) → at + 10 ≤ length b → d₁ ≡ take at b ++ le 4 i.capacity ++ drop (at + 4) b
      → d₂ ≡ take (at + 4) d₁ ++ le 2 i.erase_size ++ drop (at + 4 + 2) d₁
      → d₃ ≡ take (at + 6) d₂ ++ le 2 i.boot_version ++ drop (at + 6 + 2) d₂
      → d₄ ≡ take (at + 8) d₃ ++ le 2 i.app_version ++ drop (at + 8 + 2) d₃
      → d₄ ≡ take at b ++ geometry i ++ drop (at + 10) b
  unfolding geometry
  put-geometry i room e₁ e₂ e₃ e₄ =
      let r : at ≤ length b = omega arith in
      (behind r (behind r (behind r (num 4 i.capacity e₁) (num 2 i.erase_size e₂))
      (num 2 i.boot_version e₃)) (num 2 i.app_version e₄)).holds

  pub put-info : (i : Info) (d₅ : List ℕ) → at + 18 ≤ length b → d₁ ≡ take at b ++ geometry i ++ drop (at + 10) b
      → d₂ ≡ take (at + 10) d₁ ++ (i.mode ∷ []) ++ drop (at + 10 + 1) d₁
      → d₃ ≡ take (at + 11) d₂ ++ (i.boot_baud ∷ []) ++ drop (at + 11 + 1) d₂
      → d₄ ≡ take (at + 12) d₃ ++ le 4 i.compat ++ drop (at + 12 + 4) d₃
      → d₅ ≡ take (at + 16) d₄ ++ le 2 i.max_payload ++ drop (at + 16 + 2) d₄
      → d₅ ≡ take at b ++ saved_info i ++ drop (at + 18) b
  unfolding saved_info
  put-info i d₅ room e₁ e₂ e₃ e₄ e₅ =
      let r : at ≤ length b = omega arith in
      let first : Put at 10 (geometry i) b d₁ = record { sized = geometry-length i; holds = e₁ } in
      (behind r (behind r (behind r (behind r first (one e₂)) (one e₃)) (num 4 i.compat e₄))
      (num 2 i.max_payload e₅)).holds
