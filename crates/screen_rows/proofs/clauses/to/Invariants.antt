-- The clauses still to come give what all of them give.
use Rattle.std.proofs.Common.{◌≡◌, drop}
use Rattle.screen_rows.specs.Clauses.{to_reference}
use Rattle.screen_rows.proofs.clauses.to.Given as goal

abbrev pub invariant-loop-clause : goal.invariant-loop-clause
invariant-loop-clause l = to_reference (drop l.clause-index l.clauses) ≡ to_reference l.clauses
