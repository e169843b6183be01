-- What was found so far.
use Rattle.std.proofs.Common.{◌≡◌, ◌++◌, drop}
use Rattle.data_layout.specs.Rows.{leading_conditions}
use Rattle.name_rules.specs.Faults.{faults_at}
use Rattle.front_rules.proofs.levels.note_strays.Given as goal

abbrev pub invariant-loop-entry : goal.invariant-loop-entry
invariant-loop-entry l = l.faults.found.items ++ faults_at 6 (leading_conditions (drop l.entry-index l.entries)) ≡ l.initial.faults.found.items ++ faults_at 6 (leading_conditions l.entries)
