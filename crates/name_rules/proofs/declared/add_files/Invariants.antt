-- The names so far.
use Rattle.std.proofs.Common.{◌≡◌, ◌++◌, take, map}
use Rattle.name_rules.specs.SeenNames.{seen_declared, declared_control}
use Rattle.name_rules.proofs.declared.add_files.Given as goal

abbrev pub invariant-loop-file : goal.invariant-loop-file
invariant-loop-file l = map seen_declared l.names.items ≡ map seen_declared l.initial.names.items ++ map declared_control (take l.file-index l.files)
