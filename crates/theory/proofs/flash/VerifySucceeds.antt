-- A flash succeeds exactly on an answer to the Verify that has the check of the image.
use Prim.Native.Nat.{ℕ}
use mathlib.Core.Bool.{Bool, true, false, not}
use mathlib.Core.List.{[], ◌∷◌}
use mathlib.Core.Path.{◌≡◌, refl, sym}
use native.Mathlib.Omega.{arith}
use lib.Dec.{ltb, eqb}
use lib.ListN.{length}
use borrow.Author.Tests.{ltb-false, le-ltb, eqb-true, eq-eqb, not-false}
use Rattle.paper.specs.Frame.{field, check, Info}
use Rattle.paper.specs.Answers.{Reply, ok, device}
use Rattle.paper.specs.Talk.{demand, Answered, Talk, return, ask, ◌>>=◌, ◌>>◌, Outcome, knows}
use Rattle.paper.specs.Flash.{verify_request, accepted, transact, refuse_if, verify, known}
use Rattle.theory.specs.FlashOrder.{Checked}

-- How a flash handles the answer to the Verify.
unfoldable pub verdict : Info → Answered → Talk Outcome
verdict info a =
    accepted a.reply a.image
    >>= (λ (payload, image). refuse_if (ltb (length payload) 2) 18 [] >> refuse_if
    (not (eqb (check image) (field 0 2 payload))) 4 (check image ∷ field 0 2 payload ∷ []))
    >> known info

pub verify-asks : (n : ℕ) (info : Info) → verify n >> known info ≡ ask (demand (verify_request n)) (verdict info)
unfolding verify transact verdict ◌>>=◌
verify-asks n info = refl

-- It succeeds if and only if the answer is Ok and has at least two bytes, the first two of which are the check of the
-- image lent with it.
pub verify-only : (info : Info) (a : Answered) → verdict info a ≡ return (knows info) → Checked a
unfolding verdict accepted refuse_if ◌>>=◌
verify-only info a e = go a.reply refl e
  where
    go : (r : Reply) → a.reply ≡ r → verdict info (record { reply = r; image = a.image }) ≡ return (knows info)
        → Checked a
    go (ok payload) q e = tests (ltb (length payload) 2) (not (eqb (check a.image) (field 0 2 payload))) refl refl e
      where
        tests : (b c : Bool) → ltb (length payload) 2 ≡ b → not (eqb (check a.image) (field 0 2 payload)) ≡ c
            → refuse_if b 18 [] >> refuse_if c 4 (check a.image ∷ field 0 2 payload ∷ []) >> known info
            ≡ return (knows info) → Checked a
        tests true c eb ec e = absurd (let z : ◌≡◌ {A = ℕ} 0 1 = cc in omega arith)
        tests false true eb ec e = absurd (let z : ◌≡◌ {A = ℕ} 0 1 = cc in omega arith)
        tests false false eb ec e =
            record {
              payload = payload;
              accepted = q;
              long = ltb-false (length payload) 2 eb;
              right = sym (eqb-true _ _ (not-false _ ec));
            }
    go (device status) q e = absurd (let z : ◌≡◌ {A = ℕ} 0 1 = cc in omega arith)

pub verify-if : (info : Info) (a : Answered) → Checked a → verdict info a ≡ return (knows info)
unfolding verdict accepted refuse_if ◌>>=◌
verify-if info a h = rw (
  h.accepted,
  le-ltb (length h.payload) 2 h.long,
  eq-eqb (check a.image) (field 0 2 h.payload) (sym h.right),
)
