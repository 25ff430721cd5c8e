-- What follows from the rules on chunks and padding. A chunk is a multiple of 4, at most 1024. A padded length is a
-- multiple of 4, at most 3 bytes more. A Write is the smaller of a chunk and what is left.
use Prim.Native.Nat.{ℕ, ◌+◌, ◌-◌, ◌*◌, ◌/◌, ◌%◌, ◌<◌, ◌≤◌, min}
use mathlib.Core.Bool.{Bool, true, false, cond}
use mathlib.Core.Path.{◌≡◌, refl}
use native.Mathlib.Omega.{arith}
use lib.Dec.{leb}
use borrow.Author.Tests.{leb-true, leb-false}
use Rattle.paper.specs.Frame.{Info}
use Rattle.paper.specs.Answers.{chunk, padding, padded}
use Rattle.paper.specs.Flash.{write_size}

pub chunk-multiple : (m : ℕ) → chunk m % 4 ≡ 0
unfolding chunk
chunk-multiple m = go (cond (leb m 1024) m 1024)
  where
    go : (x : ℕ) → x / 4 * 4 % 4 ≡ 0
    go x = omega arith

pub chunk-most : (m : ℕ) → chunk m ≤ 1024
unfolding chunk
chunk-most m = go (leb m 1024) refl
  where
    go : (b : Bool) → leb m 1024 ≡ b → cond b m 1024 / 4 * 4 ≤ 1024
    go true e = omega (arith, leb-true m 1024 e)
    go false e = omega arith

pub chunk-least : (m : ℕ) → 4 ≤ m → 4 ≤ chunk m
unfolding chunk
chunk-least m h = go (leb m 1024)
  where
    go : (b : Bool) → 4 ≤ cond b m 1024 / 4 * 4
    go true = omega arith
    go false = omega arith

pub padded-multiple : (n : ℕ) → padded n % 4 ≡ 0
unfolding padding
padded-multiple n = omega arith

pub padded-close : (n : ℕ) → padded n < n + 4
unfolding padding
padded-close n = omega arith

-- A Write is the smaller of a chunk and what is left.
pub write-size : (info : Info) (n o : ℕ) → write_size info n o ≡ min (chunk info.max_payload) (padded n - o)
write-size info n o = go (leb (chunk info.max_payload) (padded n - o)) refl
  where
    c : ℕ
    c = chunk info.max_payload

    go : (b : Bool) → leb c (padded n - o) ≡ b → cond b c (padded n - o) ≡ min c (padded n - o)
    go true e = omega (arith, leb-true c (padded n - o) e)
    go false e = omega (arith, leb-false c (padded n - o) e)
