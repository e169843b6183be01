-- What was found so far.
use Rattle.std.proofs.Common.{◌≡◌, ◌++◌, take}
use Rattle.std.specs.List.{flat_map}
use Rattle.data_layout.specs.Rows.{leading_conditions}
use Rattle.name_rules.specs.Faults.{faults_at}
use Rattle.front_rules.proofs.levels.note_strays_of_files.Given as goal

abbrev pub invariant-loop-file : goal.invariant-loop-file
invariant-loop-file l = l.faults.found.items ≡ l.initial.faults.found.items ++ faults_at 6 (flat_map (λ file. leading_conditions file.records) (take l.file-index l.files))
