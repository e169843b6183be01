-- The names so far.
use Rattle.std.proofs.Common.{take, map, Some}
use Rattle.cob_base.specs.declared.file_entries.FileEntry.{FileEntry}
use Rattle.procedure_names.specs.Firsts.{AreFirsts}
use Rattle.procedure_names.proofs.scope.names_of_files.Given as goal

abbrev pub invariant-loop-number : goal.invariant-loop-number
invariant-loop-number l = AreFirsts (map (λ (file : FileEntry). Some file.name) (take l.number l.files)) l.names
