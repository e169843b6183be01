-- Counts that stand still at the largest.
use Rattle.std.proofs.Common.{◌≡◌, ℕ, ◌+◌, ◌*◌, ◌<◌, ◌≤◌, inl, inr, refl, arith, min, suc, zero}
use Rattle.std.proofs.Math.Nat.{mul-le-mul_left}
use Rattle.std.proofs.lemmas.Bool.{cases_lt}

small : (m a b : ℕ) → min a m ≡ a → min (min a m * b) m ≡ min (a * b) m
small m a b e = rw e refl

large : (m a b : ℕ) → min a m ≡ m → m < a → min (min a m * b) m ≡ min (a * b) m
large m a zero e h = rw e (omega arith)
large m a (suc b) e h =
    let one : 1 ≤ suc b = omega arith in
    let low : m * 1 ≤ m * suc b = mul-le-mul_left m one in
    let high : a * 1 ≤ a * suc b = mul-le-mul_left a one in
    rw e (omega (arith, low, high))

pub mul_min : (m a b : ℕ) → min (min a m * b) m ≡ min (a * b) m
mul_min m a b = elim (cases_lt m a) as (λ _. min (min a m * b) m ≡ min (a * b) m) [ inl h ↦ large m a b (omega arith) h | inr h ↦ small m a b (omega arith) ]

pub add_min : (m a b : ℕ) → min (min a m + min b m) m ≡ min (a + b) m
add_min m a b = omega arith
