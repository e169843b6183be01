-- The names so far.
use Rattle.std.proofs.Common.{◌≡◌, ◌++◌, take, map}
use Rattle.std.specs.List.{flat_map}
use Rattle.name_rules.specs.DoubleNames.{declared_screen}
use Rattle.name_rules.specs.SeenNames.{seen_declared}
use Rattle.name_rules.proofs.declared.add_screens.Given as goal

abbrev pub invariant-loop-entry : goal.invariant-loop-entry
invariant-loop-entry l = map seen_declared l.names.items ≡ map seen_declared l.initial.names.items ++ flat_map declared_screen (take l.entry-index l.entries)
