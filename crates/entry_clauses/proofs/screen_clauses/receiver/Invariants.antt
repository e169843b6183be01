-- The clauses still to come give what all of them give.
use Rattle.std.proofs.Common.{◌≡◌, drop}
use Rattle.entry_clauses.specs.Clauses.{receiver}
use Rattle.entry_clauses.proofs.screen_clauses.receiver.Given as goal

abbrev pub invariant-loop-clause : goal.invariant-loop-clause
invariant-loop-clause l = receiver (drop l.clause-index l.clauses) ≡ receiver l.clauses
