-- The clauses still to come give what all of them give.
use Rattle.std.proofs.Common.{◌≡◌, drop}
use Rattle.data_layout.specs.Rows.{sign_place}
use Rattle.data_layout.proofs.clauses.sign.Given as goal

abbrev pub invariant-loop-clause : goal.invariant-loop-clause
invariant-loop-clause l = sign_place (drop l.clause-index l.clauses) ≡ sign_place l.clauses
