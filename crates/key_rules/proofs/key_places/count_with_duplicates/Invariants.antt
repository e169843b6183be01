-- Those so far and those to come.
use Rattle.std.proofs.Common.{◌≡◌, ◌+◌, ◌≤◌, drop}
use Rattle.std.specs.Prelude.{count_by}
use Rattle.entry_clauses.specs.Clauses.{alternates}
use Rattle.key_rules.proofs.key_places.count_with_duplicates.Given as goal

abbrev pub invariant-loop-clause : goal.invariant-loop-clause
invariant-loop-clause l = record {
  count : l.count + count_by (λ alternate. alternate.duplicates) (alternates (drop l.clause-index l.clauses)) ≡ count_by (λ alternate. alternate.duplicates) (alternates l.clauses);
  few : l.count ≤ l.clause-index;
}
