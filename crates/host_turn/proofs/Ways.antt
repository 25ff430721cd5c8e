-- Lemmas for a turn's numbers and back: one for each path through the code.
use Prim.Native.Nat.{ℕ}
use mathlib.Core.Bool.{Bool, false}
use mathlib.Core.Path.{◌≡◌}
use lib.Dec.{eqb}
use Rattle.image.specs.declared.Info.{Info}
use Rattle.client.specs.declared.Reset.{Reset}
use Rattle.client.specs.declared.Turn.{Turn}
use Rattle.host_turn.specs.declared.Flat.{Flat}
use Rattle.image.specs.InfoBytes.{no_info}
use Rattle.host_turn.specs.Turns.{no_reset, jobless, selecting, demanding, flat_of}

-- A number that names one case does not name another.
pub other-case : (x n m : ℕ) → x ≡ n → eqb n m ≡ false → eqb x m ≡ false
other-case x n m e h = rw e h

-- A match on a value whose case is known.
module _ {A B C : Type 0} (f : A → B → C) where
  pub at-case : (a : A) (x y : B) (r : C) → x ≡ y → r ≡ f a y → r ≡ f a x
  at-case a x y r e h = rw e h

pub at_turn : (t u : Turn) (r : Flat) → t ≡ u → r ≡ flat_of u → r ≡ flat_of t
at_turn t u r e h = rw e h

pub jobless-is : (turn kind search step : ℕ) (given other : Bool) (i : Info) (z : Reset) → i ≡ no_info
    → ◌≡◌ {A = Flat}
    (record {
      turn = turn;
      kind = kind;
      search = search;
      given = given;
      step = step;
      other = other;
      job = 0;
      purpose = 0;
      size = 0;
      info = i;
      address = 0;
      offset = 0;
      retries = 0;
      reset = z;
    })
    (jobless turn kind search given step other z)
jobless-is turn kind search step given other i z e = rw e

pub selecting-is : (turn search step : ℕ) (given other : Bool) (z : Reset) (r : Flat) → z ≡ no_reset
    → r ≡ jobless turn 0 search given step other z
    → r ≡ selecting turn search given step other
unfolding selecting
selecting-is turn search step given other z r e h = rw e at h

-- Without information, without a reset, or without both.
module _ (turn job purpose size address offset retries p n : ℕ) (i : Info) (z : Reset) (r : Flat) (ep : p ≡ purpose)
    (en : n ≡ size) where
  pub demanding-neither : i ≡ no_info → z ≡ no_reset → r ≡ demanding turn job p n i address offset retries z
      → r ≡ demanding turn job purpose size no_info address offset retries no_reset
  demanding-neither ei ez h = rw (ep, en, ei, ez) at h

  pub demanding-unreset : z ≡ no_reset → r ≡ demanding turn job p n i address offset retries z
      → r ≡ demanding turn job purpose size i address offset retries no_reset
  demanding-unreset ez h = rw (ep, en, ez) at h

  pub demanding-uninformed : i ≡ no_info → r ≡ demanding turn job p n i address offset retries z
      → r ≡ demanding turn job purpose size no_info address offset retries z
  demanding-uninformed ei h = rw (ep, en, ei) at h
