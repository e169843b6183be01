use Rattle.std.proofs.Common.{◌∙◌, ap, List}
use Rattle.cob_base.specs.declared.file_entries.FileEntry.{FileEntry}
use Rattle.procedure_names.specs.Firsts.{at_number}
use Rattle.procedure_names.proofs.scope.Scope.file_named.Goals as goal

pub returns : goal.returns
returns c = c.file_at.ensures ∙ ap (λ (some : List FileEntry). at_number some c.in_ok-number.number) c.files.ensures ∙ c.in_ok-number.ensures
