-- The faults of the names so far.
use Rattle.std.proofs.Common.{◌≡◌, ◌++◌, not, take, map}
use Rattle.std.specs.Prelude.{filter}
use Rattle.name_rules.specs.Faults.{faults_at}
use Rattle.statement_parts.specs.Seen.{seen_wanted}
use Rattle.procedure_names.specs.Names.{is_known}
use Rattle.procedure_names.specs.Mentions.{asked}
use Rattle.procedure_names.specs.Scoped.{items_in}
use Rattle.procedure_names.proofs.unknown_names.note_unknown_names_of.Given as goal

abbrev pub invariant-loop-name : goal.invariant-loop-name
invariant-loop-name l =
    l.faults.found.items
    ≡ l.initial.faults.found.items
    ++ faults_at 1 (map (λ name. name.line) (filter (λ name. not (is_known l.scope.program.now (items_in l.scope) name.name)) (take l.name-index (map (λ name. asked l.one.line (seen_wanted name)) l.name-items))))
