-- The keys so far and those to come.
use Rattle.std.proofs.Common.{◌≡◌, ◌++◌, drop, map, Bor}
use Rattle.cob_base.specs.declared.operands.Reference.{Reference}
use Rattle.entry_clauses.specs.Clauses.{alternates}
use Rattle.key_rules.proofs.key_places.push_alternates.Given as goal

abbrev pub invariant-loop-clause : goal.invariant-loop-clause
invariant-loop-clause l =
    map (λ (key : Bor Reference). key.now) l.keys.items ++ map (λ alternate. alternate.key) (alternates (drop l.clause-index l.clauses))
    ≡ map (λ (key : Bor Reference). key.now) l.initial.keys.items ++ map (λ alternate. alternate.key) (alternates l.clauses)
