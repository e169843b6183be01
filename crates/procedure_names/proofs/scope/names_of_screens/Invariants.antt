-- The names so far.
use Rattle.std.proofs.Common.{take, map}
use Rattle.procedure_names.specs.Scoped.{name_of_screen}
use Rattle.procedure_names.specs.Firsts.{AreFirsts}
use Rattle.procedure_names.proofs.scope.names_of_screens.Given as goal

abbrev pub invariant-loop-number : goal.invariant-loop-number
invariant-loop-number l = AreFirsts (map (name_of_screen) (take l.number l.entries)) l.names
