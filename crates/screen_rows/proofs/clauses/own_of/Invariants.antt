use Rattle.std.proofs.Common.{◌≡◌, ◌≤◌, drop, length}
use Rattle.screen_rows.specs.Clauses.{own_clauses}
use Rattle.screen_rows.proofs.clauses.own_of.Given as goal

abbrev pub invariant-loop-at : goal.invariant-loop-at
invariant-loop-at l = (l.own ≡ own_clauses (drop l.at l.clauses)) × (l.at ≤ length l.clauses)

abbrev pub decreases-loop-at : goal.decreases-loop-at
decreases-loop-at l = l.at
