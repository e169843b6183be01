use Rattle.std.proofs.Common.{◌∙◌, ap, not, ℕ, List, map}
use Rattle.std.specs.List.{list_any}
use Rattle.cob_base.specs.declared.divisions.FileDescription.{FileDescription}
use Rattle.cob_base.specs.declared.file_entries.FileEntry.{FileEntry}
use Rattle.data_names.specs.References.{same_name}
use Rattle.name_rules.proofs.KeysOf.{any_map}
use Rattle.name_rules.proofs.Noted.{noted_more}
use Rattle.name_rules.proofs.unknown_names.note_unselected.Goals as goal

pub loop-description-preserved : goal.loop-description-preserved
loop-description-preserved c =
    let others = c.args.files.now in
    let x = c.description-item.result in
    let has =
    c.in_ok-is_selected.ensures (map (λ (file : FileEntry). file.name) others) c.in_ok-selected.ensures
    ∙ ap (λ (name : List ℕ). list_any (λ (other : List ℕ). same_name name other) (map (λ (file : FileEntry). file.name) others)) c.as_bytes.ensures
    ∙ any_map (λ (file : FileEntry). file.name) (λ (other : List ℕ). same_name x.name other) others in
    noted_more 1 (λ (description : FileDescription). description.line) (λ (description : FileDescription). not (list_any (λ (file : FileEntry). same_name description.name file.name) others)) c.args.descriptions.now c.loop-description.description-index x _ _ _ _ c.loop-description-test.true c.description-item.is
    (ap not has) c.loop-description.invariant c.in_ok-note.ensures
