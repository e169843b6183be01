use Rattle.std.proofs.Common.{◌≡◌, take, count_by}
use Rattle.screen_rows.specs.Clauses.{is_of}
use Rattle.screen_rows.proofs.clauses.count.Given as goal

abbrev pub invariant-loop-clause : goal.invariant-loop-clause
invariant-loop-clause l = l.count ≡ count_by (is_of l.kind) (take l.clause-index l.clauses)
