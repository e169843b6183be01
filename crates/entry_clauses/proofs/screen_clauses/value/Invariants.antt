-- The clauses still to come give what all of them give.
use Rattle.std.proofs.Common.{◌≡◌, drop}
use Rattle.entry_clauses.specs.Clauses.{shown_text}
use Rattle.entry_clauses.proofs.screen_clauses.value.Given as goal

abbrev pub invariant-loop-clause : goal.invariant-loop-clause
invariant-loop-clause l = shown_text (drop l.clause-index l.clauses) ≡ shown_text l.clauses
