use Rattle.std.proofs.Common.{◌≤◌, ◌<◌, ◌-◌, ℕ, List, length, slice_index_or, All}
use Rattle.perform_cycles.specs.Lowest.{IsLevel}
use Rattle.perform_cycles.proofs.lowest.Lowest.are_at_least.Given as goal

abbrev pub invariant-loop-at : goal.invariant-loop-at
invariant-loop-at l =
    (l.first ≤ l.at) × ((numbers : List ℕ) → All (IsLevel numbers) l.self.levels.items → (k : ℕ) → l.first ≤ k → k < l.at → k < length numbers → l.bound ≤ slice_index_or numbers k 0)

abbrev pub decreases-loop-at : goal.decreases-loop-at
decreases-loop-at l = l.end - l.at
