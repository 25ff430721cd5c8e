-- The elements of a slice that is read by chunks, as `as_chunks` gives it.
use Prim.Native.Nat.{ℕ, zero, suc, ◌+◌, ◌*◌, ◌<◌}
use mathlib.Core.List.{List, []}
use mathlib.Core.Path.{◌≡◌, ◌∙◌, ap}
use native.Mathlib.Omega.{arith}
use lib.ListN.{drop, get_or}
use lib.Seq.{get_or-take, get_or-drop}
use Rattle.std.specs.Simd.{first_chunks}

module _ {A : Type 0} where
  -- Element j of the i-th of k chunks of n elements.
  pub get_or-chunk : (n k : ℕ) (xs : List A) (i j : ℕ) (d : A) → i < k → j < n
      → get_or (get_or (first_chunks n k xs) i []) j d ≡ get_or xs (n * i + j) d
  get_or-chunk n zero xs i j d h g = absurd (omega arith)
  get_or-chunk n (suc k) xs zero j d h g = get_or-take n xs j d g ∙ ap (λ (m : ℕ). get_or xs m d) (omega arith)
  get_or-chunk n (suc k) xs (suc i) j d h g =
      get_or-chunk n k (drop n xs) i j d (omega arith) g ∙ get_or-drop n xs (n * i + j) d
      ∙ ap (λ (m : ℕ). get_or xs m d) (omega arith)
