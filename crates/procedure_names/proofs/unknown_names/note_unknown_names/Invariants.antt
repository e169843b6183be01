-- The faults of the statements so far.
use Rattle.std.proofs.Common.{◌≡◌, ◌++◌, not, take, map}
use Rattle.std.specs.List.{flat_map}
use Rattle.std.specs.Prelude.{filter}
use Rattle.name_rules.specs.Faults.{faults_at}
use Rattle.statement_parts.specs.References.{names_of}
use Rattle.statement_parts.specs.Seen.{seen_all}
use Rattle.procedure_names.specs.Names.{is_known}
use Rattle.procedure_names.specs.Mentions.{asked}
use Rattle.procedure_names.specs.Scoped.{items_in}
use Rattle.procedure_names.proofs.unknown_names.note_unknown_names.Given as goal

abbrev pub invariant-loop-one : goal.invariant-loop-one
invariant-loop-one l =
    l.faults.found.items
    ≡ l.initial.faults.found.items
    ++ faults_at 1 (flat_map (λ one. map (λ name. name.line) (filter (λ name. not (is_known l.scope.program.now (items_in l.scope) name.name)) (map (asked one.line) (names_of one.item)))) (take l.one-index (seen_all l.statements)))
