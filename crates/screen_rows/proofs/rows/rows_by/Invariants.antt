-- With rows of the rest these are the rows of all entries.
use Rattle.std.proofs.Common.{List, ◌++◌, drop}
use Rattle.screen_rows.specs.declared.row.ScreenRow.{ScreenRow}
use Rattle.screen_rows.specs.declared.row.Content.{Content}
use Rattle.screen_rows.specs.Rows.{AreScreenRows}
use Rattle.screen_rows.proofs.rows.rows_by.Given as goal

abbrev pub invariant-loop-at : goal.invariant-loop-at
invariant-loop-at l = (r : List ScreenRow) (c : List Content) → AreScreenRows l.layout (drop l.at l.entries) r c → AreScreenRows l.layout l.entries (l.rows.items ++ r) (l.contents.items ++ c)
