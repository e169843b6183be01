use Rattle.std.proofs.Common.{◌∙◌, sym, ap, subst, not, ◌==◌, ◌++◌, List, map}
use Rattle.std.specs.Prelude.{filter}
use Rattle.std.specs.List.{list_any}
use Rattle.cob_base.specs.declared.line.Line.{Line}
use Rattle.cob_base.specs.declared.file_entries.FileEntry.{FileEntry}
use Rattle.cob_base.specs.declared.divisions.FileDescription.{FileDescription}
use Rattle.data_names.specs.Parts.{files}
use Rattle.data_names.specs.Items.{DataItem}
use Rattle.data_names.specs.References.{same_name, count_of_matches}
use Rattle.name_rules.specs.declared.mentions.Mention.{Mention}
use Rattle.name_rules.specs.Mentions.{references, subscript_items}
use Rattle.name_rules.specs.Mentions as m
use Rattle.name_rules.specs.SeenMentions.{AreFoundAs}
use Rattle.name_rules.specs.Faults.{faults_at}
use Rattle.name_rules.proofs.Noted.{noted_twice, noted_parts}
use Rattle.name_rules.proofs.unknown_names.note_unknown_names.Goals as goal

abbrev undescribed : List FileEntry → List FileDescription → List Line
undescribed files all = map (λ file. file.line) (filter (λ file. not (list_any (λ one. same_name file.name one.name) all)) files)

abbrev unselected : List FileEntry → List FileDescription → List Line
unselected files all = map (λ one. one.line) (filter (λ one. not (list_any (λ file. same_name one.name file.name) files)) all)

pub returns : goal.returns
returns c = λ (items : List DataItem) h.
    let front = c.args.front.now in
    let old = c.args.faults.now.found.items in
    let test = λ (one : m.Mention). count_of_matches items one.reference == 0 in
    let one = c.in_ok-note_undescribed.ensures
    ∙ ap (λ (some : List FileEntry). old ++ faults_at 1 (undescribed some c.descriptions.result.now)) c.files.ensures
    ∙ ap (λ (all : List FileDescription). old ++ faults_at 1 (undescribed (files front) all)) c.descriptions.ensures in
    let two = c.in_ok-note_unselected.ensures
    ∙ ap (λ (some : List FileEntry). c.note_undescribed.new.faults.found.items ++ faults_at 1 (unselected some c.descriptions-2.result.now)) c.files-2.ensures
    ∙ ap (λ (all : List FileDescription). c.note_undescribed.new.faults.found.items ++ faults_at 1 (unselected (files front) all)) c.descriptions-2.ensures in
    let first = subst (λ (made : List Mention). AreFoundAs items (references front) made) (sym c.as_slice.ensures.value) h.references_are in
    let second = subst (λ (made : List Mention). AreFoundAs items (subscript_items front) made) (sym c.as_slice-2.ensures.value) h.subscripts_are in
    let three = noted_parts 1 (λ (one : m.Mention). one.line) test (references front) (subscript_items front) _ _ _ (c.in_ok-note_unknown.ensures items (references front) first)
    (c.in_ok-note_unknown-2.ensures items (subscript_items front) second) in
    noted_twice 1 _ _ old _ _ (noted_twice 1 _ _ old _ _ one two) three
