-- Blocks of twice the width.
use Rattle.std.proofs.Common.{◌≡◌, ℕ, ◌+◌, ◌*◌, ◌/◌, ◌<◌, ◌≤◌, List, length, get_or, arith, inl, inr}
use Rattle.std.proofs.lemmas.Bool.{cases_lt}
use Rattle.perform_cycles.specs.Lowest.{IsLow, AreLower}

-- where a block of twice the width begins
twice : (i w : ℕ) → i * (w * 2) ≡ 2 * i * w
twice i w = omega arith

twice_and_one : (i w : ℕ) → i * (w * 2) + w ≡ (2 * i + 1) * w
twice_and_one i w = omega arith

pub halved_is : (numbers lows made : List ℕ) (w : ℕ) → AreLower lows made → ((i : ℕ) → i < length lows → IsLow numbers (i * w) w (get_or lows i 0))
    → (i : ℕ) → i < length made → IsLow numbers (i * (w * 2)) (w * 2) (get_or made i 0)
halved_is numbers lows made w lower low i below k after before within = elim (cases_lt k (i * (w * 2) + w)) as (λ _. get_or made i 0 ≤ get_or numbers k 0) [
  | inl less ↦
      let half : i < length lows / 2 = omega (arith, below, lower.halved) in
      let here : 2 * i < length lows = omega (arith, half) in
      let first : get_or lows (2 * i) 0 ≤ get_or numbers k 0 = low (2 * i) here k (omega (arith, after, twice i w)) (omega (arith, less, twice i w)) within in
      omega (arith, first, lower.first i below)
  | inr not_less ↦
      let half : i < length lows / 2 = omega (arith, below, lower.halved) in
      let there : 2 * i + 1 < length lows = omega (arith, half) in
      let second : get_or lows (2 * i + 1) 0 ≤ get_or numbers k 0 = low (2 * i + 1) there k (omega (arith, not_less, twice_and_one i w)) (omega (arith, before, twice_and_one i w)) within in
      omega (arith, second, lower.second i below)
]
