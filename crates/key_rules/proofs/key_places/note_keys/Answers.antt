use Rattle.std.proofs.Common.{◌≡◌, ◌∙◌, sym, ap, ◌+◌, ◌++◌, ◌∷◌, [], take}
use Rattle.std.proofs.lemmas.List.{take_more}
use Rattle.cob_base.specs.declared.file_entries.FileEntry.{FileEntry}
use Rattle.data_names.specs.Table.{items_of}
use Rattle.key_rules.specs.KeyPlaces.{has_bad_keys}
use Rattle.name_rules.specs.Faults.{fault_where}
use Rattle.name_rules.proofs.SpotsOf.{noted_one}
use Rattle.key_rules.proofs.key_places.note_keys.Goals as goal

pub loop-file-preserved : goal.loop-file-preserved
loop-file-preserved c = λ front h.
    let files = c.args.files.now in
    let k = c.loop-file.file-index in
    let file = c.file-item.result in
    let more : take (k + 1) files ≡ take k files ++ file ∷ [] = take_more files k file c.loop-file-test.true ∙ ap (λ (x : FileEntry). take k files ++ x ∷ []) (sym c.file-item.is) in
    rw more (noted_one 7 (λ (one : FileEntry). one.line) (has_bad_keys front (items_of c.args.table.now)) (take k files) file _ _ _ (c.loop-file.invariant front h)
    (c.in_ok-note.ensures ∙ ap (λ b. c.loop-file.faults.found.items ++ fault_where b 7 file.line) (c.in_ok-is_bad.ensures front h)))
