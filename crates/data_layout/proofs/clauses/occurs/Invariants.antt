-- The clauses still to come give what all of them give.
use Rattle.std.proofs.Common.{◌≡◌, drop}
use Rattle.data_layout.specs.Rows.{occurs_of}
use Rattle.data_layout.proofs.clauses.occurs.Given as goal

abbrev pub invariant-loop-clause : goal.invariant-loop-clause
invariant-loop-clause l = occurs_of (drop l.clause-index l.clauses) ≡ occurs_of l.clauses
