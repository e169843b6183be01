use Rattle.std.proofs.Common.{ap, List}
use Rattle.screen_cells.specs.declared.cell.Cell.{Cell}
use Rattle.screen_cells.specs.Cells.{Shown}
use Rattle.cobol_cmd.proofs.Shown.{painted_over, fits_on_screen}
use Rattle.cobol_cmd.proofs.report.shown.Goals as goal

pub returns-clause-bytes : goal.returns-clause-bytes
returns-clause-bytes c =
    let fits = fits_on_screen c.args.item.line c.args.item.column _ c.requires.first_line c.requires.last_line c.requires.first_column c.requires.last_column in
    rw c.place.ensures (painted_over _ _ _ _ _ fits (ap (λ (screen : Shown). screen.cells) c.in_ok-screen.ensures) c.paint.ensures.cells)
