-- The clauses still to come give what all of them give.
use Rattle.std.proofs.Common.{◌≡◌, drop}
use Rattle.entry_clauses.specs.Clauses.{record_key}
use Rattle.entry_clauses.proofs.file_clauses.record_key.Given as goal

abbrev pub invariant-loop-clause : goal.invariant-loop-clause
invariant-loop-clause l = record_key (drop l.clause-index l.clauses) ≡ record_key l.clauses
