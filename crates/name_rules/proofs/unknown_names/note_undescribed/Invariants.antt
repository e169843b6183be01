-- The faults of those so far.
use Rattle.std.proofs.Common.{◌≡◌, ◌++◌, not, take, map}
use Rattle.std.specs.Prelude.{filter}
use Rattle.std.specs.List.{list_any}
use Rattle.data_names.specs.References.{same_name}
use Rattle.name_rules.specs.Faults.{faults_at}
use Rattle.name_rules.proofs.unknown_names.note_undescribed.Given as goal

abbrev pub invariant-loop-file : goal.invariant-loop-file
invariant-loop-file l =
    l.faults.found.items
    ≡ l.initial.faults.found.items ++ faults_at 1 (map (λ file. file.line) (filter (λ file. not (list_any (λ description. same_name file.name description.name) l.descriptions)) (take l.file-index l.files)))
