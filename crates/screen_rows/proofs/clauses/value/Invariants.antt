-- The clauses still to come give what all of them give.
use Rattle.std.proofs.Common.{◌≡◌, drop}
use Rattle.screen_rows.specs.Clauses.{value_text}
use Rattle.screen_rows.proofs.clauses.value.Given as goal

abbrev pub invariant-loop-clause : goal.invariant-loop-clause
invariant-loop-clause l = value_text (drop l.clause-index l.clauses) ≡ value_text l.clauses
