use Rattle.screen_layout.proofs.ActsInOrder.{in_order}
use Rattle.screen_layout.proofs.painting.show_item.Goals as goal

pub returns-clause-cells : goal.returns-clause-cells
returns-clause-cells c = in_order _ _ c.args.screen.now.cells c.blank_for.new.screen.cells c.paint_item.new.screen.cells c.blank_for.ensures.cells c.paint_item.ensures.cells
