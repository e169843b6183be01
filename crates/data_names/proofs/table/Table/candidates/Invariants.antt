-- All that match are among the numbers so far.
use Rattle.data_names.specs.Pairs.{IsCover}
use Rattle.data_names.specs.Table.{items_of}
use Rattle.data_names.proofs.table.Table.candidates.Given as goal

abbrev pub invariant-loop-qualifier : goal.invariant-loop-qualifier
invariant-loop-qualifier l = IsCover (items_of l.self) l.name l.qualifiers l.best
