-- The faults of a procedure division, and with those of the front all faults of a program.
use Rattle.std.specs.Prelude.{Bool, List, ◌++◌, map, filter}
use Rattle.cob_base.specs.declared.line.Line.{Line}
use Rattle.cob_base.specs.declared.paragraphs.Program.{Program}
use Rattle.cob_base.specs.declared.statements.Statement.{Statement}
use Rattle.data_names.specs.Items.{DataItem}
use Rattle.name_rules.specs.declared.fault.Fault.{Fault}
use Rattle.entry_clauses.specs.ScreenItems.{ScreenItem}
use Rattle.front_rules.specs.Faults.{front_faults}
use Rattle.name_rules.specs.Faults.{faults_at}
use Rattle.statement_parts.specs.Statements.{statements}
use Rattle.procedure_names.specs.UnknownNames.{unknown_in_statements, ambiguous_in_statements, miscounted_in_statements}
use Rattle.procedure_names.specs.DoubleParagraphs.{double_paragraphs}
use Rattle.procedure_rules.specs.Kinds.{wrong_kinds_in_statements}
use Rattle.procedure_rules.specs.Keys.{has_bad_key}
use Rattle.procedure_rules.specs.Phrases.{has_refused_retry, left_out_of_procedure}
use Rattle.procedure_rules.specs.Reading.{has_bad_lock}

-- the lines of the statements that pass
abbrev pub lines_where : Program → (Statement → Bool) → List Line
lines_where program test = map (λ one. one.line) (filter (λ one. test one.item) (statements program.paragraphs))

-- All faults of a procedure division. The last lines are those of the paragraphs that reach themselves.
abbrev pub procedure_faults : Program → List DataItem → List Line → List Fault
procedure_faults program items cycles =
    faults_at 1 (unknown_in_statements program items)
    ++ faults_at 2 (ambiguous_in_statements program items)
    ++ faults_at 3 (double_paragraphs program)
    ++ faults_at 6 (wrong_kinds_in_statements program items)
    ++ faults_at 7 (lines_where program (has_bad_key program.front items))
    ++ faults_at 8 cycles
    ++ faults_at 9 (lines_where program has_refused_retry)
    ++ faults_at 10 (left_out_of_procedure program.paragraphs)
    ++ faults_at 12 (lines_where program (has_bad_lock program.front items))
    ++ faults_at 13 (miscounted_in_statements program items)

-- All faults of a program. A paragraph stands after all of the front, so a name that it shares is at fault at the paragraph, and the front
-- has no fault for it: the two lists go one behind the other.
abbrev pub program_faults : Program → List DataItem → List ScreenItem → List Line → List Fault
program_faults program items screens cycles = front_faults program.front items screens ++ procedure_faults program items cycles
