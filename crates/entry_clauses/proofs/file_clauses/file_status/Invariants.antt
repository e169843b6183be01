-- The clauses still to come give what all of them give.
use Rattle.std.proofs.Common.{◌≡◌, drop}
use Rattle.entry_clauses.specs.Clauses.{file_status}
use Rattle.entry_clauses.proofs.file_clauses.file_status.Given as goal

abbrev pub invariant-loop-clause : goal.invariant-loop-clause
invariant-loop-clause l = file_status (drop l.clause-index l.clauses) ≡ file_status l.clauses
