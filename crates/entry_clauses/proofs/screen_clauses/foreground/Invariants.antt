-- The clauses still to come give what all of them give.
use Rattle.std.proofs.Common.{◌≡◌, drop}
use Rattle.entry_clauses.specs.Clauses.{foreground}
use Rattle.entry_clauses.proofs.screen_clauses.foreground.Given as goal

abbrev pub invariant-loop-clause : goal.invariant-loop-clause
invariant-loop-clause l = foreground (drop l.clause-index l.clauses) ≡ foreground l.clauses
