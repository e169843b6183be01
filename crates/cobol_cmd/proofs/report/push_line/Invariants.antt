use Rattle.std.proofs.Common.{◌≡◌, ◌++◌, map, take}
use Rattle.screen_cells.specs.declared.cell.Cell.{Cell}
use Rattle.cobol_cmd.proofs.report.push_line.Given as goal

abbrev pub invariant-loop-cell : goal.invariant-loop-cell
invariant-loop-cell l = l.report.items ≡ l.initial.report.items ++ map (λ (cell : Cell). cell.byte) (take l.cell-index l.line)
