use Rattle.std.proofs.Common.{◌∙◌, map, Some}
use Rattle.cob_base.specs.declared.file_entries.FileEntry.{FileEntry}
use Rattle.data_names.specs.Parts.{files}
use Rattle.procedure_names.specs.Scoped.{front_in}
use Rattle.procedure_names.proofs.ScopeOf.{file_is}
use Rattle.procedure_names.proofs.scope.Scope.is_file.Goals as goal

pub returns : goal.returns
returns c =
    let all = files (front_in c.args.self.now) in
    c.is_some.ensures ∙ file_is all c.args.name.now c.in_ok-number.number (c.in_ok-number.ensures (map (λ (file : FileEntry). Some file.name) all) c.requires.files)
