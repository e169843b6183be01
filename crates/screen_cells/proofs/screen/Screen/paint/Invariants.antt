use Rattle.std.proofs.Common.{◌≡◌, ℕ, ◌+◌, ◌-◌, length}
use Rattle.std.specs.Prelude.{slice_get, slice_index}
use Rattle.screen_cells.specs.Cells.{cell_count, painted_cell}
use Rattle.screen_cells.proofs.CellLemmas.{written}
use Rattle.screen_cells.proofs.screen.Screen.paint.Given as goal

abbrev pub invariant-loop-at : goal.invariant-loop-at
invariant-loop-at l = record {
  whole : length l.self-inside.cells.items ≡ cell_count;
  line : l.self-inside.line ≡ l.initial.self-inside.line;
  column : l.self-inside.column ≡ l.initial.self-inside.column;
  each : (n : ℕ) → slice_get l.self-inside.cells.items n ≡ written l.first (l.first + l.at) (λ n. painted_cell l.style (slice_index l.bytes (n - l.first))) l.initial.self-inside.cells.items n;
}
