-- The names so far.
use Rattle.std.proofs.Common.{◌≡◌, ◌++◌, take, map}
use Rattle.std.specs.List.{flat_map}
use Rattle.name_rules.specs.DoubleNames.{declared_file}
use Rattle.name_rules.specs.SeenNames.{seen_declared}
use Rattle.name_rules.proofs.declared.add_descriptions.Given as goal

abbrev pub invariant-loop-file : goal.invariant-loop-file
invariant-loop-file l = map seen_declared l.names.items ≡ map seen_declared l.initial.names.items ++ flat_map declared_file (take l.file-index l.files)
