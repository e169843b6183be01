-- The clauses still to come give what all of them give.
use Rattle.std.proofs.Common.{◌≡◌, drop}
use Rattle.entry_clauses.specs.Clauses.{sender}
use Rattle.entry_clauses.proofs.screen_clauses.sender.Given as goal

abbrev pub invariant-loop-clause : goal.invariant-loop-clause
invariant-loop-clause l = sender (drop l.clause-index l.clauses) ≡ sender l.clauses
