use Rattle.std.proofs.Common.{◌≡◌, ℕ, length}
use Rattle.std.specs.Prelude.{slice_get}
use Rattle.screen_cells.specs.Cells.{cell_count, blank_cell}
use Rattle.screen_cells.proofs.CellLemmas.{written}
use Rattle.screen_cells.proofs.screen.Screen.erase.Given as goal

abbrev pub invariant-loop-number : goal.invariant-loop-number
invariant-loop-number l = record {
  whole : length l.self-inside.cells.items ≡ cell_count;
  line : l.self-inside.line ≡ l.initial.self-inside.line;
  column : l.self-inside.column ≡ l.initial.self-inside.column;
  each : (n : ℕ) → slice_get l.self-inside.cells.items n ≡ written l.first l.number (λ _. blank_cell) l.initial.self-inside.cells.items n;
}
