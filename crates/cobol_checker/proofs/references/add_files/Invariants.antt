-- Those of the files so far.
use Rattle.std.proofs.Common.{◌≡◌, ◌++◌, take}
use Rattle.std.specs.List.{flat_map}
use Rattle.data_names.specs.Seen.{seen_references}
use Rattle.name_rules.specs.Mentions.{references_of_file}
use Rattle.cobol_checker.proofs.references.add_files.Given as goal

abbrev pub invariant-loop-file : goal.invariant-loop-file
invariant-loop-file l = seen_references l.all.items ≡ seen_references l.initial.all.items ++ flat_map references_of_file (take l.file-index l.files)
