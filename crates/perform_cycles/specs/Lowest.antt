-- The lowest of blocks of numbers.
use Rattle.std.specs.Prelude.{◌≡◌, ℕ, ◌+◌, ◌*◌, ◌/◌, ◌<◌, ◌≤◌, List, length, slice_index_or, Some, Option, None}
use Rattle.perform_cycles.specs.declared.lowest.Level.{Level}
use Rattle.perform_cycles.specs.declared.lowest.Block.{Block}

-- none of so many numbers from here on is below this one
abbrev pub IsLow : List ℕ → ℕ → ℕ → ℕ → Type 0
IsLow numbers begins width low = (k : ℕ) → begins ≤ k → k < begins + width → k < length numbers → low ≤ slice_index_or numbers k 0

-- blocks of one width, one behind the other
pub record IsLevel (numbers : List ℕ) (level : Level) : Type 0 where
  pub wide : 0 < level.width
  pub lows : (i : ℕ) → i < length level.lows.items → IsLow numbers (i * level.width) level.width (slice_index_or level.lows.items i 0)

-- none is above either of the two at twice its number
pub record AreLower (lows made : List ℕ) : Type 0 where
  pub halved : length made ≡ length lows / 2
  pub first : (i : ℕ) → i < length made → slice_index_or made i 0 ≤ slice_index_or lows (2 * i) 0
  pub second : (i : ℕ) → i < length made → slice_index_or made i 0 ≤ slice_index_or lows (2 * i + 1) 0

-- the block's lowest, where there is one
abbrev pub IsLowBlock : List ℕ → ℕ → Option Block → Type 0
IsLowBlock numbers begins None = Unit {0}
IsLowBlock numbers begins (Some block) = IsLow numbers begins block.width block.low
