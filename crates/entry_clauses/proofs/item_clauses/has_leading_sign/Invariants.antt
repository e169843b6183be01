-- The clauses still to come give what all of them give.
use Rattle.std.proofs.Common.{◌≡◌, drop}
use Rattle.entry_clauses.specs.Clauses.{has_leading_sign}
use Rattle.entry_clauses.proofs.item_clauses.has_leading_sign.Given as goal

abbrev pub invariant-loop-clause : goal.invariant-loop-clause
invariant-loop-clause l = has_leading_sign (drop l.clause-index l.clauses) ≡ has_leading_sign l.clauses
