use Rattle.std.proofs.Common.{◌≡◌, ℕ, ◌<◌, ◌≤◌, ◌*◌, ◌+◌, length, slice_index_or}
use Rattle.perform_cycles.proofs.lowest.lower_of_two.Given as goal

abbrev pub invariant-loop-at : goal.invariant-loop-at
invariant-loop-at l =
    (length l.made.items ≡ l.at)
    × ((i : ℕ) → i < l.at → slice_index_or l.made.items i 0 ≤ slice_index_or l.lows (2 * i) 0)
    × ((i : ℕ) → i < l.at → slice_index_or l.made.items i 0 ≤ slice_index_or l.lows (2 * i + 1) 0)
