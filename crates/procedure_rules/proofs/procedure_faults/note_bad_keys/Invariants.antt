-- The faults of the statements so far.
use Rattle.std.proofs.Common.{◌≡◌, ◌++◌, take, map}
use Rattle.std.specs.Prelude.{filter}
use Rattle.name_rules.specs.Faults.{faults_at}
use Rattle.statement_parts.specs.Seen.{seen_all}
use Rattle.procedure_rules.specs.Keys.{has_bad_key}
use Rattle.procedure_names.specs.Scoped.{front_in, items_in}
use Rattle.procedure_rules.proofs.procedure_faults.note_bad_keys.Given as goal

abbrev pub invariant-loop-one : goal.invariant-loop-one
invariant-loop-one l =
    l.faults.found.items
    ≡ l.initial.faults.found.items ++ faults_at 7 (map (λ one. one.line) (filter (λ one. has_bad_key (front_in l.known.scope.now) (items_in l.known.scope.now) one.item) (take l.one-index (seen_all l.statements))))
