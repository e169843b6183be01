-- Those of the clauses so far.
use Rattle.std.proofs.Common.{◌≡◌, ◌++◌, take, map}
use Rattle.data_names.specs.Seen.{seen_references}
use Rattle.entry_clauses.specs.Clauses.{alternates}
use Rattle.cobol_checker.proofs.references.add_alternates.Given as goal

abbrev pub invariant-loop-clause : goal.invariant-loop-clause
invariant-loop-clause l = seen_references l.all.items ≡ seen_references l.initial.all.items ++ map (λ alternate. alternate.key) (alternates (take l.clause-index l.clauses))
