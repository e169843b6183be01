-- The clauses still to come give what all of them give.
use Rattle.std.proofs.Common.{◌≡◌, drop}
use Rattle.screen_rows.specs.Clauses.{from_operand}
use Rattle.screen_rows.proofs.clauses.from.Given as goal

abbrev pub invariant-loop-clause : goal.invariant-loop-clause
invariant-loop-clause l = from_operand (drop l.clause-index l.clauses) ≡ from_operand l.clauses
