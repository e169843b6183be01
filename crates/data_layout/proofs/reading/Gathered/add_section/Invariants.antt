use Rattle.std.proofs.Common.{◌≡◌}
use Rattle.data_layout.specs.Gathered.{Goes}
use Rattle.data_layout.proofs.reading.Gathered.add_section.Given as goal

abbrev pub invariant-loop-at : goal.invariant-loop-at
invariant-loop-at l = Goes l.in_file l.starts l.entries l.at l.initial.self.rows.items l.self.rows.items l.initial.self.texts.items l.self.texts.items × (l.self.strays.items ≡ l.initial.self.strays.items)
