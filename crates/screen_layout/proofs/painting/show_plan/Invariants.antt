-- The items so far are shown.
use Rattle.std.proofs.Common.{take}
use Rattle.std.specs.List.{flat_map}
use Rattle.screen_layout.specs.Painting.{item_acts, shown_bytes, AreAfter, IsCursorAfter}
use Rattle.screen_layout.proofs.painting.show_plan.Given as goal

abbrev pub invariant-loop-placed : goal.invariant-loop-placed
invariant-loop-placed l = record {
  cells : AreAfter (flat_map (λ placed. item_acts placed (shown_bytes l.layout l.storage placed)) (take l.placed-index l.plan.items)) l.initial.screen.cells l.screen.cells;
  cursor : IsCursorAfter (take l.placed-index l.plan.items) l.initial.screen l.screen;
}
