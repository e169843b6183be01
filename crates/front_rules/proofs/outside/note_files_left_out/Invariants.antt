-- The faults of those so far.
use Rattle.std.proofs.Common.{◌≡◌, ◌++◌, take, map}
use Rattle.std.specs.Prelude.{filter}
use Rattle.front_rules.specs.Outside.{is_file_outside}
use Rattle.name_rules.specs.Faults.{faults_at}
use Rattle.front_rules.proofs.outside.note_files_left_out.Given as goal

abbrev pub invariant-loop-file : goal.invariant-loop-file
invariant-loop-file l =
    l.faults.found.items ≡ l.initial.faults.found.items ++ faults_at 10 (map (λ file. file.line) (filter is_file_outside (take l.file-index l.files)))
