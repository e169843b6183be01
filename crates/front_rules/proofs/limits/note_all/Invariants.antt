-- What was found so far.
use Rattle.std.proofs.Common.{◌≡◌, ◌++◌, take, map}
use Rattle.name_rules.specs.Faults.{faults_at}
use Rattle.front_rules.proofs.limits.note_all.Given as goal

abbrev pub invariant-loop-file : goal.invariant-loop-file
invariant-loop-file l =
    l.faults.found.items ≡ l.initial.faults.found.items ++ faults_at 5 (map (λ file. file.line) (take l.file-index l.files))
