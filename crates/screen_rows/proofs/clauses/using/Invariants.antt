-- The clauses still to come give what all of them give.
use Rattle.std.proofs.Common.{◌≡◌, drop}
use Rattle.screen_rows.specs.Clauses.{using_reference}
use Rattle.screen_rows.proofs.clauses.using.Given as goal

abbrev pub invariant-loop-clause : goal.invariant-loop-clause
invariant-loop-clause l = using_reference (drop l.clause-index l.clauses) ≡ using_reference l.clauses
