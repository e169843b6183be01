use Rattle.std.proofs.Common.{◌∙◌, ap, sym, ◌++◌, List}
use Rattle.std.specs.List.{flat_map}
use Rattle.cob_base.specs.declared.line.Line.{Line}
use Rattle.cob_base.specs.declared.divisions.FileDescription.{FileDescription}
use Rattle.data_layout.specs.Rows.{leading_conditions, strays, sections}
use Rattle.data_names.specs.Parts.{descriptions, working_storage}
use Rattle.front_rules.specs.Levels.{misplaced}
use Rattle.name_rules.specs.Faults.{faults_at}
use Rattle.front_rules.proofs.StraysOf.{strays-is}
use Rattle.name_rules.proofs.Noted.{noted_twice}
use Rattle.front_rules.proofs.levels.note_misplaced.Goals as goal

pub returns : goal.returns
returns c =
    let front = c.args.front.now in
    let leading = λ (files : List FileDescription). flat_map (λ (file : FileDescription). leading_conditions file.records) files in
    let beside = λ (files : List FileDescription). flat_map (λ (file : FileDescription). misplaced file.records) files in
    let old = c.args.faults.now.found.items in
    let one = c.in_ok-note_strays_of_files.ensures ∙ ap (λ (files : List FileDescription). old ++ faults_at 6 (leading files)) c.descriptions.ensures in
    let two = c.in_ok-note_strays.ensures ∙ ap (λ entries. c.note_strays_of_files.new.faults.found.items ++ faults_at 6 (leading_conditions entries)) c.working_storage.ensures in
    let three = c.in_ok-note_beside_records.ensures ∙ ap (λ (files : List FileDescription). c.note_strays.new.faults.found.items ++ faults_at 6 (beside files)) c.descriptions-2.ensures in
    let both = noted_twice 6 (leading (descriptions front)) (leading_conditions (working_storage front)) old _ _ one two in
    let strays_are = both ∙ ap (λ (lines : List Line). old ++ faults_at 6 lines) (sym (strays-is front.data)) in
    noted_twice 6 (strays (sections front)) (beside (descriptions front)) old _ _ strays_are three
