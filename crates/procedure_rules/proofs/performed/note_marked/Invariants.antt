-- The faults of the paragraphs so far.
use Rattle.std.proofs.Common.{◌≡◌, ◌++◌, take}
use Rattle.name_rules.specs.Faults.{faults_at}
use Rattle.procedure_rules.specs.SeenMarks.{marked_from}
use Rattle.procedure_rules.proofs.performed.note_marked.Given as goal

abbrev pub invariant-loop-number : goal.invariant-loop-number
invariant-loop-number l = l.faults.found.items ≡ l.initial.faults.found.items ++ faults_at 8 (marked_from l.marks 0 (take l.number l.paragraphs))
