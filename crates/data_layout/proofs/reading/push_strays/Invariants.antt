use Rattle.std.proofs.Common.{◌≡◌, ◌++◌, drop}
use Rattle.data_layout.specs.Rows.{leading_conditions}
use Rattle.data_layout.proofs.reading.push_strays.Given as goal

abbrev pub invariant-loop-entry : goal.invariant-loop-entry
invariant-loop-entry l = l.strays.items ++ leading_conditions (drop l.entry-index l.entries) ≡ l.initial.strays.items ++ leading_conditions l.entries
