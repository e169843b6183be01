use Rattle.std.proofs.Common.{◌≡◌}
use Rattle.std.specs.Vec.Iter.{into_iter_items}
use Rattle.data_layout.specs.declared.layout.Layout.{Layout}
use Rattle.screen_layout.specs.ScreenFaults.{screen_faults}
use Rattle.screen_layout.specs.Planned.{AreSound}
use Rattle.screen_layout.proofs.PlannedScreens.{Planning}
use Rattle.std.proofs.Common.{[]}
use Rattle.screen_layout.proofs.planning.make_plans.Given as goal

abbrev pub invariant-loop-row : goal.invariant-loop-row
invariant-loop-row l = (layout : Layout) → AreSound layout l.fn.read.rows.items l.fn.read.contents.items → screen_faults l.fn.read.rows.items ≡ []
    → Planning layout l.fn.read.rows.items l.fn.read.contents.items l.row-index (into_iter_items l.contents) l.walk l.plans
