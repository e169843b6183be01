-- The clauses still to come give what all of them give.
use Rattle.std.proofs.Common.{◌≡◌, drop}
use Rattle.data_names.specs.Clauses.{value_clause}
use Rattle.data_names.proofs.item_clauses.value.Given as goal

abbrev pub invariant-loop-clause : goal.invariant-loop-clause
invariant-loop-clause l = value_clause (drop l.clause-index l.clauses) ≡ value_clause l.clauses
