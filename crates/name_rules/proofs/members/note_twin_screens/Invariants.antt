-- The faults of the entries so far, and their members.
use Rattle.std.proofs.Common.{map}
use Rattle.name_rules.specs.DoubleNames.{named_screen}
use Rattle.entry_clauses.specs.SeenScreens.{seen_screen}
use Rattle.name_rules.proofs.Twins.{Twins}
use Rattle.name_rules.proofs.members.note_twin_screens.Given as goal

abbrev pub invariant-loop-item : goal.invariant-loop-item
invariant-loop-item l = Twins (map named_screen (map seen_screen l.screens)) l.item-index l.members l.initial.faults.found.items l.faults.found.items
