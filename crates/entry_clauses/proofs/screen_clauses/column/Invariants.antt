-- The clauses still to come give what all of them give.
use Rattle.std.proofs.Common.{◌≡◌, drop}
use Rattle.data_names.specs.Clauses.{first_of}
use Rattle.entry_clauses.specs.Clauses.{column_named}
use Rattle.entry_clauses.proofs.screen_clauses.column.Given as goal

abbrev pub invariant-loop-clause : goal.invariant-loop-clause
invariant-loop-clause l = first_of column_named (drop l.clause-index l.clauses) ≡ first_of column_named l.clauses
