use Rattle.std.proofs.Common.{take, ◌++◌, List}
use Rattle.data_layout.specs.declared.row.Row.{Row}
use Rattle.data_layout.specs.Walk.{IsAfter}
use Rattle.data_layout.proofs.walk.walk_over.Given as goal

abbrev pub invariant-loop-row : goal.invariant-loop-row
invariant-loop-row l = (before : List Row) → IsAfter before l.initial.walk → IsAfter (before ++ take l.row-index l.rows) l.walk
