-- The faults of those so far.
use Rattle.std.proofs.Common.{◌≡◌, ◌++◌, not, take, map}
use Rattle.std.specs.Prelude.{filter}
use Rattle.std.specs.List.{list_any}
use Rattle.data_names.specs.References.{same_name}
use Rattle.name_rules.specs.Faults.{faults_at}
use Rattle.name_rules.proofs.unknown_names.note_unselected.Given as goal

abbrev pub invariant-loop-description : goal.invariant-loop-description
invariant-loop-description l =
    l.faults.found.items
    ≡ l.initial.faults.found.items ++ faults_at 1 (map (λ description. description.line) (filter (λ description. not (list_any (λ file. same_name description.name file.name) l.files)) (take l.description-index l.descriptions)))
