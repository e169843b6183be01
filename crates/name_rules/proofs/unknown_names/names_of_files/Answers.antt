use Rattle.std.proofs.Common.{◌∙◌, ap, ◌||◌, ℕ, List, map}
use Rattle.std.specs.List.{list_any}
use Rattle.std.specs.Str.{bytes_eq}
use Rattle.std.proofs.lemmas.List.{take_all}
use Rattle.cob_base.specs.declared.file_entries.FileEntry.{FileEntry}
use Rattle.data_names.specs.Names.{in_small}
use Rattle.name_rules.specs.NameKeys.{has_key}
use Rattle.name_rules.proofs.KeysOf.{any_more}
use Rattle.name_rules.proofs.unknown_names.names_of_files.Goals as goal

pub loop-file-preserved : goal.loop-file-preserved
loop-file-preserved c = λ (key : List ℕ).
    any_more (λ (file : FileEntry). file.name) (λ (name : List ℕ). bytes_eq key (in_small name)) c.args.files.now c.loop-file.file-index c.file-item.result _ _ c.loop-file-test.true c.file-item.is (c.loop-file.invariant key)
    (c.in_ok-add.ensures key ∙ ap (λ (bs : List ℕ). has_key c.loop-file.names key || bytes_eq key (in_small bs)) c.as_bytes.ensures)

pub returns : goal.returns
returns c = λ (key : List ℕ).
    c.loop-file.invariant key ∙ ap (λ (some : List FileEntry). list_any (λ (name : List ℕ). bytes_eq key (in_small name)) (map (λ (file : FileEntry). file.name) some)) (take_all c.loop-file.file-index c.args.files.now c.loop-file-test.false)
