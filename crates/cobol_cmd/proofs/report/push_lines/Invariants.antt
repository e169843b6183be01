use Rattle.std.proofs.Common.{◌≡◌, ◌++◌, ◌-◌, ◌*◌, map, drop}
use Rattle.screen_cells.specs.declared.cell.Cell.{Cell}
use Rattle.cobol_cmd.specs.Report.{screen_lines}
use Rattle.cobol_cmd.proofs.report.push_lines.Given as goal

abbrev pub invariant-loop-number : goal.invariant-loop-number
invariant-loop-number l = l.report.items ++ screen_lines (24 - l.number) (map (λ (cell : Cell). cell.byte) (drop (l.number * 80) l.cells)) ≡ l.initial.report.items ++ screen_lines 24 (map (λ (cell : Cell). cell.byte) l.cells)
