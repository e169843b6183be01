-- What was found so far.
use Rattle.std.proofs.Common.{◌≡◌, ◌++◌, take, map}
use Rattle.std.specs.Prelude.{filter}
use Rattle.data_names.specs.Table.{items_of}
use Rattle.front_rules.specs.Kinds.{is_file_of_wrong_kind}
use Rattle.name_rules.specs.Faults.{faults_at}
use Rattle.front_rules.proofs.kinds.note_files.Given as goal

abbrev pub invariant-loop-file : goal.invariant-loop-file
invariant-loop-file l =
    l.faults.found.items ≡ l.initial.faults.found.items ++ faults_at 6 (map (λ file. file.line) (filter (is_file_of_wrong_kind (items_of l.table)) (take l.file-index l.files)))
