-- The clauses still to come give what all of them give.
use Rattle.std.proofs.Common.{◌≡◌, drop}
use Rattle.entry_clauses.specs.Clauses.{screen_picture_text}
use Rattle.entry_clauses.proofs.screen_clauses.picture.Given as goal

abbrev pub invariant-loop-clause : goal.invariant-loop-clause
invariant-loop-clause l = screen_picture_text (drop l.clause-index l.clauses) ≡ screen_picture_text l.clauses
