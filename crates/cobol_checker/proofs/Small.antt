-- Counts that are small are exact.
use Rattle.std.proofs.Common.{◌≡◌, ◌≤◌, arith, ℕ}
use Rattle.data_layout.specs.Walk.{counted}

pub small_count : (n : ℕ) → n ≤ 1000000 → counted n ≡ n
small_count n h = omega arith
