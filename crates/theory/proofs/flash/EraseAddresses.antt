-- Erase addresses are below the capacity, and within 32 bits unless 19 is due.
use Prim.Native.Nat.{ℕ, zero, suc, ◌+◌, ◌-◌, ◌*◌, ◌/◌, ◌<◌, ◌≤◌}
use mathlib.Core.Bool.{false}
use mathlib.Core.Path.{◌≡◌}
use native.Mathlib.Nat.{div-mul-le_self, div-lt_iff_lt-mul}
use native.Mathlib.Omega.{arith}
use borrow.Author.Tests.{ltb-false}
use Rattle.paper.specs.Frame.{Info}
use Rattle.paper.specs.Count.{All}
use Rattle.theory.proofs.EachMember.{all-weaken}
use Rattle.paper.specs.Answers.{steps, apart, below, erase_addresses, spans_too_far}

-- Of k numbers from a on, e apart, each plus e is at most a + k * e.
apart_below : (e k a c : ℕ) → 0 < e → a + k * e ≤ c → All (λ x. x + e ≤ c) (apart e k a)
unfolding apart
apart_below e zero a c h r = tt
apart_below e (suc k) a c h r = (omega arith, apart_below e k (a + e) c h (omega arith))

pub addresses-span : (info : Info) → 0 < info.erase_size
    → All (λ x. x + info.erase_size ≤ steps info.erase_size info.capacity * info.erase_size) (erase_addresses info)
unfolding erase_addresses below
addresses-span info h =
    let none : info.capacity - 0 ≡ info.capacity = omega arith in
    rw none (apart_below info.erase_size (steps info.erase_size info.capacity) 0
    (steps info.erase_size info.capacity * info.erase_size) h (omega arith))

-- Unless 19 is due, neither an address nor the progress reported after it is over 32 bits.
pub addresses-fit : (info : Info)
    → 0 < info.erase_size → spans_too_far info ≡ false → All (λ x. x + info.erase_size ≤ 0xFFFFFFFF) (erase_addresses info)
unfolding spans_too_far
addresses-fit info h e =
    let top : steps info.erase_size info.capacity * info.erase_size ≤ 0xFFFFFFFF =
    ltb-false 0xFFFFFFFF (steps info.erase_size info.capacity * info.erase_size) e in
    all-weaken (λ x. x + info.erase_size ≤ steps info.erase_size info.capacity * info.erase_size)
    (λ x. x + info.erase_size ≤ 0xFFFFFFFF)
    (erase_addresses info) (λ x l. omega arith) (addresses-span info h)

rounded-up : (e c : ℕ) → 0 < e → steps e c * e < c + e
unfolding steps
rounded-up e c h = omega (arith, div-mul-le_self (c + (e - 1)) e)

pub addresses-below : (info : Info) → 0 < info.erase_size → All (λ x. x < info.capacity) (erase_addresses info)
addresses-below info h =
    all-weaken (λ x. x + info.erase_size ≤ steps info.erase_size info.capacity * info.erase_size)
    (λ x. x < info.capacity)
    (erase_addresses info) (λ x l. omega (arith, rounded-up info.erase_size info.capacity h))
    (addresses-span info h)

-- Nor is the capacity.
pub capacity-fits : (info : Info) → 0 < info.erase_size → spans_too_far info ≡ false → info.capacity ≤ 0xFFFFFFFF
unfolding spans_too_far steps
capacity-fits info h e =
    let top : (info.capacity + (info.erase_size - 1)) / info.erase_size * info.erase_size ≤ 0xFFFFFFFF =
    ltb-false 0xFFFFFFFF ((info.capacity + (info.erase_size - 1)) / info.erase_size * info.erase_size) e in
    omega (
      arith,
      top,
      (div-lt_iff_lt-mul {k = info.erase_size} {x = info.capacity + (info.erase_size - 1)}
          {y = (info.capacity + (info.erase_size - 1)) / info.erase_size + 1} h).0 (omega arith),
    )
