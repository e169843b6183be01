-- The clauses still to come give what all of them give.
use Rattle.std.proofs.Common.{◌≡◌, drop}
use Rattle.screen_rows.specs.Clauses.{picture_text}
use Rattle.screen_rows.proofs.clauses.picture.Given as goal

abbrev pub invariant-loop-clause : goal.invariant-loop-clause
invariant-loop-clause l = picture_text (drop l.clause-index l.clauses) ≡ picture_text l.clauses
