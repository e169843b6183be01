use Rattle.std.proofs.Common.{◌≡◌, subst, ◌++◌, List}
use Rattle.cob_base.specs.declared.line.Line.{Line}
use Rattle.cob_base.specs.declared.paragraphs.Program.{Program}
use Rattle.data_names.specs.declared.table.Table.{Table}
use Rattle.data_names.specs.Table.{items_of}
use Rattle.procedure_rules.specs.Performed.{AreCycleLines}
use Rattle.procedure_rules.specs.Faults.{procedure_faults}
use Rattle.procedure_rules.proofs.procedure_faults.note_procedure_faults.Goals as goal

pub note_in_scope-requires : goal.note_in_scope-requires
note_in_scope-requires c = c.in_ok-scope.ensures.0

pub returns : goal.returns
returns c =
    let scope = c.in_ok-scope.scope in
    let is = c.in_ok-scope.ensures in
    let old = c.args.faults.now.found.items in
    let new = c.note_in_scope.new.faults.found.items in
    subst (λ (table : Table). (cycles : List Line) × AreCycleLines c.args.program.now.paragraphs cycles × (new ≡ old ++ procedure_faults c.args.program.now (items_of table) cycles)) is.2
    (subst (λ (program : Program). (cycles : List Line) × AreCycleLines program.paragraphs cycles × (new ≡ old ++ procedure_faults program (items_of scope.table.now) cycles)) is.1 c.in_ok-note_in_scope.ensures)
