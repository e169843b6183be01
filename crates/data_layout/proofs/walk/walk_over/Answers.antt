use Rattle.std.proofs.Common.{take, ◌++◌}
use Rattle.data_layout.proofs.Totals.{walked}
use Rattle.data_layout.proofs.walk.walk_over.Goals as goal

pub loop-row-preserved : goal.loop-row-preserved
loop-row-preserved c = λ before h. walked before c.args.rows.now c.loop-row.row-index _ _ c.loop-row-test.true
    (c.in_ok-enter.ensures (before ++ take c.loop-row.row-index c.args.rows.now) (c.close.ensures _ (c.loop-row.invariant before h)))
