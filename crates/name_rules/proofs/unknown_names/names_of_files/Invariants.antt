-- The names so far.
use Rattle.std.proofs.Common.{take, map}
use Rattle.name_rules.specs.NameKeys.{AreKeys}
use Rattle.name_rules.proofs.unknown_names.names_of_files.Given as goal

abbrev pub invariant-loop-file : goal.invariant-loop-file
invariant-loop-file l = AreKeys (map (λ file. file.name) (take l.file-index l.files)) l.names
