use Rattle.std.proofs.Common.{ap, ◌∙◌, ◌≡◌, replicate, List}
use Rattle.screen_cells.specs.declared.cell.Cell.{Cell}
use Rattle.screen_cells.specs.Cells.{blank_cells, cell_count}
use Rattle.screen_cells.proofs.screen.Screen.blank.Goals as goal

pub returns : goal.returns
returns c =
    let cells : c.in_ok-vec.field-0.items ≡ replicate cell_count c.blank.result = c.in_ok-vec.ensures.items_if_clones_equal (λ y same. same) in
    let blank : c.in_ok-vec.field-0.items ≡ blank_cells = cells ∙ ap (λ (cell : Cell). replicate cell_count cell) c.blank.ensures in
    ap (λ (l : List Cell). record { cells = l; line = 1; column = 1 }) blank
