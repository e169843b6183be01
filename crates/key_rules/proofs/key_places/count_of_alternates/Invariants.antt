-- Those so far and those to come.
use Rattle.std.proofs.Common.{◌≡◌, ◌+◌, ◌≤◌, length, drop}
use Rattle.entry_clauses.specs.Clauses.{alternates}
use Rattle.key_rules.proofs.key_places.count_of_alternates.Given as goal

abbrev pub invariant-loop-clause : goal.invariant-loop-clause
invariant-loop-clause l = record {
  count : l.count + length (alternates (drop l.clause-index l.clauses)) ≡ length (alternates l.clauses);
  few : l.count ≤ l.clause-index;
}
