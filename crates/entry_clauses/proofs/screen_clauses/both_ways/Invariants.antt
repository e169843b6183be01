-- The clauses still to come give what all of them give.
use Rattle.std.proofs.Common.{◌≡◌, drop}
use Rattle.entry_clauses.specs.Clauses.{both_ways}
use Rattle.entry_clauses.proofs.screen_clauses.both_ways.Given as goal

abbrev pub invariant-loop-clause : goal.invariant-loop-clause
invariant-loop-clause l = both_ways (drop l.clause-index l.clauses) ≡ both_ways l.clauses
