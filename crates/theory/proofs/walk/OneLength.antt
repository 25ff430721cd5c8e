-- Distinct ids of one length: none is a prefix of another, and a discovery takes exactly document 01's count of
-- Selects.
use Prim.Native.Nat.{ℕ, ◌+◌, ◌-◌, ◌*◌, ◌≤◌, ◌<◌}
use mathlib.Core.Bool.{Bool, true, false}
use mathlib.Core.List.{List, [], ◌∷◌}
use mathlib.Core.Path.{◌≡◌, refl, sym, ◌∙◌, ap}
use native.Mathlib.Omega.{arith}
use lib.ListN.{length}
use Rattle.paper.specs.Count.{matching, honest, All, Distinct, Pods, sum_over, sum_under, alone_under, forked, selects}
use Rattle.paper.specs.Hearing.{Id, Prefix, bits_of, matches}
use Rattle.paper.specs.Walk.{sort, discover, Wire, done, run}
use Rattle.paper.proofs.Bits.{bits-length}
use Rattle.theory.specs.PrefixFree.{Unlike, Separate, Apart, own_alone, own_selects}
use Rattle.theory.proofs.EachMember.{all-weaken}
use Rattle.theory.proofs.walk.FindsExactly.{discover-apart}
use Rattle.theory.proofs.walk.PrefixMatches.{begins-whole, bits_of-inj}
use Rattle.theory.proofs.walk.SelectsSent.{Alike}

module _ (L : ℕ) where
  unlike : (x y : Id) → length x ≡ length y → All (λ b. b < 256) x → All (λ b. b < 256) y → ¬ (x ≡ y)
      → matches (bits_of x) y ≡ false
  unlike x y n bx by different = go (matches (bits_of x) y) refl
    where
      go : (b : Bool) → matches (bits_of x) y ≡ b → matches (bits_of x) y ≡ false
      go true e = absurd (different (bits_of-inj x y bx by
          (begins-whole (bits_of x) (bits_of y) e (omega (arith, bits-length x, bits-length y)))))
      go false e = e

  all-unlike : (x : Id) (ys : List Id) → length x ≡ L → All (λ b. b < 256) x → All (λ y. ¬ (x ≡ y)) ys
      → All (λ y. length y ≡ L) ys → All (λ y. All (λ b. b < 256) y) ys
      → All (Unlike x) ys
  all-unlike x [] n b d s bs = tt
  all-unlike x (y ∷ ys) n b d s bs = (
    (unlike x y (n ∙ sym s.0) b bs.0 d.0, unlike y x (s.0 ∙ sym n) bs.0 b (λ e. d.0 (sym e))),
    all-unlike x ys n b d.1 s.1 bs.1,
  )

  separate-pods : (xs : List Id) → Distinct xs → All (λ x. length x ≡ L) xs → All (λ x. All (λ b. b < 256) x) xs
      → Separate xs
  separate-pods [] d s b = tt
  separate-pods (x ∷ xs) d s b =
      (all-unlike x xs s.0 b.0 d.0 s.1 b.1, separate-pods xs d.1 s.1 b.1)

  pub pods-apart : (xs : List Id) → Pods L xs → Apart xs
  pods-apart xs pods = record {
    few = pods.few;
    separate = separate-pods xs pods.distinct pods.sized pods.bytes;
    short = all-weaken _ _ xs (λ x n. omega (arith, pods.within16)) pods.sized;
  }

  sum-alone : (S : List Id) (p : ℕ) (xs : List Id) → All (λ x. length x ≡ L) xs
      → sum_over (own_alone S p) xs ≡ sum_over (alone_under S p (8 * L)) xs
  unfolding sum_over
  sum-alone S p [] s = refl
  sum-alone S p (x ∷ xs) s = rw s.0 (ap (alone_under S p (8 * L) x +◌) (sum-alone S p xs s.1))

  pub selects-own : (S : List Id) (pre : Prefix) → All (λ x. length x ≡ L) (matching pre S)
      → own_selects S pre ≡ selects S L pre
  unfolding selects own_selects
  selects-own S pre s = ap (λ n. 2 + (n + sum_under (129 - length pre) pre (forked S)))
      (sum-alone S (length pre) (matching pre S) s)

pub discover-exact : (wire : Wire) (S : List Id) (L : ℕ) (pre : Prefix) → Alike wire (honest S) pre → length pre ≤ 128
    → Pods L (matching pre S)
    → run wire 0 (discover pre) ≡ (done (sort (matching pre S)), selects S L pre)
discover-exact wire S L pre h le pods =
    discover-apart wire S pre h le (pods-apart L (matching pre S) pods)
    ∙ ap (λ n. (done (sort (matching pre S)), n)) (selects-own L S pre pods.sized)
