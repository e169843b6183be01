-- What was found so far.
use Rattle.std.proofs.Common.{◌≡◌, ◌++◌, take, map}
use Rattle.std.specs.Prelude.{filter}
use Rattle.statement_parts.specs.Seen.{seen_all}
use Rattle.name_rules.specs.Faults.{faults_at}
use Rattle.procedure_rules.specs.Kinds as k
use Rattle.procedure_names.specs.Scoped.{items_in}
use Rattle.procedure_rules.proofs.kinds.note_statements.Given as goal

abbrev pub invariant-loop-one : goal.invariant-loop-one
invariant-loop-one l =
    l.faults.found.items
    ≡ l.initial.faults.found.items ++ faults_at 6 (map (λ one. one.line) (filter (λ one. k.is_of_wrong_kind l.known.scope.now.program.now (items_in l.known.scope.now) one.item) (seen_all (take l.one-index l.statements))))
