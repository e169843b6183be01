use Rattle.std.proofs.Common.{sym, map, Some}
use Rattle.cob_base.specs.declared.file_entries.FileEntry.{FileEntry}
use Rattle.data_names.specs.Parts.{files}
use Rattle.procedure_names.specs.Scoped.{front_in}
use Rattle.procedure_names.proofs.ScopeOf.{file_by}
use Rattle.procedure_names.proofs.scope.Scope.file_number.Goals as goal

pub returns : goal.returns
returns c =
    let all = files (front_in c.args.self.now) in
    sym (file_by all c.args.name.now c.in_ok-number.number (c.in_ok-number.ensures (map (λ (file : FileEntry). Some file.name) all) c.requires.files))
