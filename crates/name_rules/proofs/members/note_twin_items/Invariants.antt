-- The faults of the items so far, and their members.
use Rattle.std.proofs.Common.{map}
use Rattle.data_names.specs.Table.{items_of}
use Rattle.name_rules.specs.DoubleNames.{named_item}
use Rattle.name_rules.proofs.Twins.{Twins}
use Rattle.name_rules.proofs.members.note_twin_items.Given as goal

abbrev pub invariant-loop-at : goal.invariant-loop-at
invariant-loop-at l = Twins (map named_item (items_of l.table)) l.at l.members l.initial.faults.found.items l.faults.found.items
