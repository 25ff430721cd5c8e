-- The marks of the levels in the code's array: adding, changing, clearing and reading the last one.
use Prim.Native.Nat.{ℕ, zero, suc, ◌+◌, ◌-◌, ◌<◌}
use mathlib.Core.Bool.{cond}
use mathlib.Core.List.{List, [], ◌∷◌, ◌++◌}
use mathlib.Core.Path.{◌≡◌, refl, sym, ◌∙◌, ap}
use native.Mathlib.Omega.{arith}
use lib.ListN.{length, get_or, set, replicate, length-append, length-replicate, replicate-append-replicate}
use lib.Seq.{append_snoc, set-append_seam, get_or-append_seam}
use Rattle.paper.specs.Hearing.{Prefix}
use Rattle.paper.specs.Walk.{◌▹◌}
use Rattle.theory.specs.WalkMachine.{Marks, path}
use Rattle.refinement.specs.CodeWalk.{padded, levels}

pub length-levels : (pre : Prefix) (marks : Marks) → length (levels pre marks) ≡ length (path pre marks)
length-levels pre [] = length-replicate (length pre) 0
length-levels pre (b ∷ marks) =
    omega (
      arith,
      length-append (levels pre marks) (cond b 2 1 ∷ []),
      length-append (path pre marks) (b ∷ []),
      length-levels pre marks,
    )

module _ (n : ℕ) (l : List ℕ) where
  spread : (v : ℕ) → padded n (l ++ (v ∷ [])) ≡ l ++ v ∷ replicate (n - (length l + 1)) 0
  spread v = ap (λ (k : ℕ). l ++ (v ∷ []) ++ replicate (n - k) 0) (length-append l (v ∷ []))
      ∙ append_snoc l v (replicate (n - (length l + 1)) 0)

  pad-last : (v : ℕ) → get_or (padded n (l ++ (v ∷ []))) (length l) 0 ≡ v
  pad-last v = ap (λ (a : List ℕ). get_or a (length l) 0) (spread v)
      ∙ get_or-append_seam l v (replicate (n - (length l + 1)) 0) 0

  pub pad-reset : (u v : ℕ) → set (padded n (l ++ (u ∷ []))) (length l) v ≡ padded n (l ++ (v ∷ []))
  pad-reset u v = ap (λ (a : List ℕ). set a (length l) v) (spread u)
      ∙ set-append_seam l u (replicate (n - (length l + 1)) 0) v ∙ sym (spread v)

  module _ (h : length l < n) where
    pad-zero : padded n l ≡ padded n (l ++ (0 ∷ []))
    pad-zero = let e : n - length l ≡ suc (n - (length l + 1)) = omega arith
        in ap (λ (k : ℕ). l ++ replicate k 0) e ∙ sym (spread 0)

    pub pad-set : (v : ℕ) → set (padded n l) (length l) v ≡ padded n (l ++ (v ∷ []))
    pad-set v = ap (λ (a : List ℕ). set a (length l) v) pad-zero ∙ pad-reset 0 v

    pub pad-clear : (u : ℕ) → set (padded n (l ++ (u ∷ []))) (length l) 0 ≡ padded n l
    pad-clear u = pad-reset u 0 ∙ sym pad-zero

zeros-at : (n i : ℕ) → ◌≡◌ {A = ℕ} (get_or (replicate n 0) i 0) 0
zeros-at zero i = refl
zeros-at (suc n) zero = refl
zeros-at (suc n) (suc i) = zeros-at n i

abbrev pub last_mark : Marks → ℕ
last_mark [] = 0
last_mark (b ∷ marks) = cond b 2 1

pub mark_of : (pre : Prefix) (marks : Marks)
    → get_or (0 ∷ padded 128 (levels pre marks)) (length (path pre marks)) 0 ≡ last_mark marks
mark_of pre [] = go (length pre)
  where
    rest : ℕ
    rest = 128 - length (replicate {A = ℕ} (length pre) 0)

    go : (d : ℕ) → get_or (0 ∷ padded 128 (replicate (length pre) 0)) d 0 ≡ 0
    go zero = refl
    go (suc d) = ap (λ (a : List ℕ). get_or a d 0) (replicate-append-replicate (length pre) rest 0)
        ∙ zeros-at (length pre + rest) d
mark_of pre (b ∷ marks) =
    let e : length (path pre marks ▹ b) ≡ suc (length (levels pre marks)) =
    omega (arith, length-append (path pre marks) (b ∷ []), length-levels pre marks) in
    ap (λ (d : ℕ). get_or (0 ∷ padded 128 (levels pre marks ++ (cond b 2 1 ∷ []))) d 0) e
    ∙ pad-last 128 (levels pre marks) (cond b 2 1)
