use Rattle.std.proofs.Common.{◌∙◌, ap, not, ℕ, List, map}
use Rattle.std.specs.List.{list_any}
use Rattle.cob_base.specs.declared.file_entries.FileEntry.{FileEntry}
use Rattle.cob_base.specs.declared.divisions.FileDescription.{FileDescription}
use Rattle.data_names.specs.References.{same_name}
use Rattle.name_rules.proofs.KeysOf.{any_map}
use Rattle.name_rules.proofs.Noted.{noted_more}
use Rattle.name_rules.proofs.unknown_names.note_undescribed.Goals as goal

pub loop-file-preserved : goal.loop-file-preserved
loop-file-preserved c =
    let others = c.args.descriptions.now in
    let x = c.file-item.result in
    let has =
    c.in_ok-is_described.ensures (map (λ (description : FileDescription). description.name) others) c.in_ok-described.ensures
    ∙ ap (λ (name : List ℕ). list_any (λ (other : List ℕ). same_name name other) (map (λ (description : FileDescription). description.name) others)) c.as_bytes.ensures
    ∙ any_map (λ (description : FileDescription). description.name) (λ (other : List ℕ). same_name x.name other) others in
    noted_more 1 (λ (file : FileEntry). file.line) (λ (file : FileEntry). not (list_any (λ (description : FileDescription). same_name file.name description.name) others)) c.args.files.now c.loop-file.file-index x _ _ _ _ c.loop-file-test.true c.file-item.is
    (ap not has) c.loop-file.invariant c.in_ok-note.ensures
