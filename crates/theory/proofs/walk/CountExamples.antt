-- The examples of condition 3, by running them and by document 01's count; and two where one id is a prefix of another.
use Prim.Native.Nat.{ℕ, ◌≤◌, ◌<◌}
use mathlib.Core.List.{List, [], ◌∷◌}
use mathlib.Core.Path.{◌≡◌, refl, sym, ◌∙◌, ap}
use native.Mathlib.Omega.{arith}
use lib.ListN.{length}
use Rattle.paper.specs.Count.{matching, heard_of, honest, All, Pods, selects}
use Rattle.paper.specs.Hearing.{Id, Prefix, bit, counting, bits_of, begins, before}
use Rattle.paper.specs.Walk.{◌>>=◌, long, ask, is_nothing, same_id, is_one, confirm_rest, confirm, keep, judge, walk}
use Rattle.paper.specs.Walk.{insert, sort, discover, done, stopped, run}
use Rattle.theory.proofs.walk.OneLength.{discover-exact}

-- An example: the ids on an honest wire, their length, and the prefix; then the ids found and the Selects taken.
pub record Row : Type 0 where
  pub ids : List Id
  pub bytes : ℕ
  pub under : Prefix
  pub found : List Id
  pub takes : ℕ

unfoldable pub rows : List Row
rows =
    record {
      ids = (0x00 ∷ []) ∷ (0x01 ∷ []) ∷ [];
      bytes = 1;
      under = [];
      found = (0x00 ∷ []) ∷ (0x01 ∷ []) ∷ [];
      takes = 8;
    }
    ∷ record {
      ids = (0x01 ∷ []) ∷ (0x03 ∷ []) ∷ [];
      bytes = 1;
      under = [];
      found = (0x01 ∷ []) ∷ (0x03 ∷ []) ∷ [];
      takes = 9;
    }
    ∷ record {
      ids = (0x7f ∷ []) ∷ (0xff ∷ []) ∷ [];
      bytes = 1;
      under = [];
      found = (0x7f ∷ []) ∷ (0xff ∷ []) ∷ [];
      takes = 11;
    }
    ∷ record {
      ids = (0x00 ∷ []) ∷ (0x01 ∷ []) ∷ [];
      bytes = 1;
      under = bits_of (0x00 ∷ []);
      found = (0x00 ∷ []) ∷ [];
      takes = 2;
    }
    ∷ record { ids = [] ∷ []; bytes = 0; under = []; found = [] ∷ []; takes = 2 }
    ∷ []

abbrev Runs : Row → Type 0
Runs r = run (honest r.ids) 0 (discover r.under) ≡ (done r.found, r.takes)

pub runs : All Runs rows
unfolding rows discover run honest heard_of matching sort insert before walk judge keep confirm confirm_rest is_one
    is_nothing ask long ◌>>=◌ bits_of counting bit begins same_id
runs = (refl, (refl, (refl, (refl, (refl, tt)))))

-- The count sums over all prefixes, too many to compute. It follows from the run.
abbrev Counts : Row → Type 0
Counts r = selects r.ids r.bytes r.under ≡ r.takes

counted : (r : Row) → length r.under ≤ 128 → Pods r.bytes (matching r.under r.ids) → Runs r → Counts r
counted r le pods e = ap (λ p. p.1)
    (sym (discover-exact (honest r.ids) r.ids r.bytes r.under (λ k q l b n. refl) le pods) ∙ e)

pods-empty : Pods 0 ([] ∷ [])
pods-empty = record {
  few = omega arith;
  distinct = (tt, tt);
  sized = (refl, tt);
  bytes = (tt, tt);
  within16 = omega arith;
}

pods-one : (a : ℕ) → a < 256 → Pods 1 ((a ∷ []) ∷ [])
pods-one a h = record {
  few = omega arith;
  distinct = (tt, tt);
  sized = (refl, tt);
  bytes = ((h, tt), tt);
  within16 = omega arith;
}

pods-two : (a b : ℕ) → a < b → b < 256 → Pods 1 ((a ∷ []) ∷ (b ∷ []) ∷ [])
pods-two a b l h = record {
  few = omega arith;
  distinct = (((λ e. let same : a ≡ b = cc in absurd (omega arith)), tt), (tt, tt));
  sized = (refl, (refl, tt));
  bytes = ((omega arith, tt), ((h, tt), tt));
  within16 = omega arith;
}

pub counts : All Counts rows
unfolding rows matching begins bits_of counting bit
counts = (
  counted _ (omega arith) (pods-two 0x00 0x01 (omega arith) (omega arith)) runs.0,
  (
    counted _ (omega arith) (pods-two 0x01 0x03 (omega arith) (omega arith)) runs.1.0,
    (
      counted _ (omega arith) (pods-two 0x7f 0xff (omega arith) (omega arith)) runs.1.1.0,
      (
        counted _ (omega arith) (pods-one 0x00 (omega arith)) runs.1.1.1.0,
        (counted _ (omega arith) pods-empty runs.1.1.1.1.0, tt),
      ),
    ),
  ),
)

-- 00 is a prefix of 00ff. Below 00 every zero child is silent, so every one child counts as garble, down to 128 bits.
pub begun-stops : run (honest ((0x00 ∷ []) ∷ (0x00 ∷ 0xff ∷ []) ∷ [])) 0 (discover []) ≡ (stopped 12, 129)
unfolding discover run honest heard_of matching sort insert before walk judge keep confirm confirm_rest is_one is_nothing
    ask long ◌>>=◌ bits_of counting bit begins same_id
begun-stops = refl

-- 00 is a prefix of 0000: 00 is not found, but 0000 is.
pub begun-lost : run (honest ((0x00 ∷ []) ∷ (0x00 ∷ 0x00 ∷ []) ∷ [])) 0 (discover [])
    ≡ (done ((0x00 ∷ 0x00 ∷ []) ∷ []), 22)
unfolding discover run honest heard_of matching sort insert before walk judge keep confirm confirm_rest is_one is_nothing
    ask long ◌>>=◌ bits_of counting bit begins same_id
begun-lost = refl
