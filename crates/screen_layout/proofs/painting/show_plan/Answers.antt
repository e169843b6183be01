use Rattle.std.proofs.Common.{◌≡◌, ◌<◌, ◌∙◌, ap, sym, subst, []}
use Rattle.std.proofs.Common.{◌∷◌, List, length, get_or}
use Rattle.screen_cells.specs.declared.cell.Cell.{Cell}
use Rattle.screen_layout.specs.declared.plan.Placed.{Placed}
use Rattle.screen_layout.specs.Painting.{item_acts, shown_bytes, last_shown, cursor_line, cursor_column, AreAfter, IsCursorAfter}
use Rattle.screen_layout.proofs.ActsInOrder.{one_more, one_behind}
use Rattle.screen_layout.proofs.painting.show_plan.Goals as goal

pub loop-placed-preserved : goal.loop-placed-preserved
loop-placed-preserved c =
    let items = c.args.plan.now.items in
    let i = c.loop-placed.placed-index in
    let item = c.placed-item.result in
    let acts = λ (placed : Placed). item_acts placed (shown_bytes c.args.layout.now c.args.storage.now placed) in
    let within : i < length items = subst (λ (xs : List Placed). i < length xs) c.as_slice-placed-items.ensures c.loop-placed-test.true in
    let here : item ≡ get_or items i item = c.placed-item.is ∙ ap (λ (xs : List Placed). get_or xs i item) c.as_slice-placed-items.ensures in
    let cells : AreAfter (acts item) c.loop-placed.screen.cells c.go_behind.new.screen.cells =
    subst (λ (new : List Cell). AreAfter (acts item) c.loop-placed.screen.cells new) (sym c.go_behind.ensures.cells) c.show_item.ensures.cells in
    let behind = c.go_behind.ensures.cursor in
    let cursor : IsCursorAfter (item ∷ []) c.loop-placed.screen c.go_behind.new.screen = record {
      line = behind.line ∙ ap (cursor_line (last_shown (item ∷ []))) c.show_item.ensures.cursor.0;
      column = behind.column ∙ ap (cursor_column (last_shown (item ∷ []))) c.show_item.ensures.cursor.1;
    } in
    record {
      cells = one_more acts items i item c.args.screen.now.cells c.loop-placed.screen.cells c.go_behind.new.screen.cells within here c.loop-placed.invariant.cells cells;
      cursor = one_behind items i item c.args.screen.now c.loop-placed.screen c.go_behind.new.screen within here c.loop-placed.invariant.cursor cursor;
    }
