-- The ways through reading a piece, with the facts known there as premises.
use Prim.Native.Nat.{ℕ, ◌+◌, ◌<◌, ◌≤◌, max}
use mathlib.Core.Bool.{Bool, true, false}
use mathlib.Core.List.{List}
use mathlib.Core.Path.{◌≡◌, sym, ◌∙◌}
use native.Mathlib.Numerals.{add-one}
use native.Mathlib.Omega.{arith}
use lib.ListN.{length, get_or, drop, drop_of_length-le}
use lib.Seq.{drop-cons}
use Rattle.log_lines.specs.declared.Event.TheVariants.{More}
use Rattle.log_lines.specs.declared.Reader.{Reader}
use Rattle.log_lines.specs.declared.Step.{Step}
use Rattle.log_lines.specs.Reading.{step, halts, feed}

module _ (s buf₀ buf : List ℕ) (j : Bool) (w₀ w : Reader) (from i : ℕ)
    (q : feed j i w buf (drop i s) ≡ feed j from w₀ buf₀ (drop from s)) where
  pub ran_out : (end : ℕ) → end ≡ max from (length s) → from ≤ i → i ≤ max from (length s) → length s ≤ i
      → record { fed = record { reader = w; at = end; event = More }; bytes = buf } ≡ feed j from w₀ buf₀ (drop from s)
  unfolding feed
  ran_out end m h g l = let e : end ≡ i = omega arith in rw e (rw (drop_of_length-le s {i = i} l) at q)

  module _ (buf' : List ℕ) (x : Step) (stop : Bool) (h : i < length s)
      (e : record { step = x; bytes = buf' } ≡ step w buf (get_or s i 0))
      (eo : stop ≡ halts x.event j x.reader.over) where
    pub further : stop ≡ false → feed j (i + 1) x.reader buf' (drop (i + 1) s) ≡ feed j from w₀ buf₀ (drop from s)
    unfolding feed
    further v = rw (add-one i) (rw (drop-cons s i 0, ← e, sym eo ∙ v, add-one i) at q)

    pub halted : stop ≡ true → record
        { fed = record { reader = x.reader; at = i + 1; event = x.event }; bytes = buf' }
        ≡ feed j from w₀ buf₀ (drop from s)
    unfolding feed
    halted v = rw (drop-cons s i 0, ← e, sym eo ∙ v) at q
