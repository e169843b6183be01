-- The clauses still to come give what all of them give.
use Rattle.std.proofs.Common.{◌≡◌, drop}
use Rattle.entry_clauses.specs.Clauses.{background}
use Rattle.entry_clauses.proofs.screen_clauses.background.Given as goal

abbrev pub invariant-loop-clause : goal.invariant-loop-clause
invariant-loop-clause l = background (drop l.clause-index l.clauses) ≡ background l.clauses
