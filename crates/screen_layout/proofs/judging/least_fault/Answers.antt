use Rattle.std.proofs.Common.{refl, [], take}
use Rattle.screen_layout.proofs.JudgedScreens.{judged_more, judged_all}
use Rattle.screen_layout.proofs.judging.least_fault.Goals as goal

pub loop-row-init : goal.loop-row-init
loop-row-init c = record { found = []; after = c.new-walk.ensures; least = refl; all = refl }

pub loop-row-preserved : goal.loop-row-preserved
loop-row-preserved c = judged_more c.args.rows.now c.loop-row.row-index _ c.loop-row.walk c.enter.new.self c.loop-row.best c.judge-best.result c.loop-row-test.true c.loop-row.invariant
    (c.judge-best.ensures (take c.loop-row.row-index c.args.rows.now) c.loop-row.invariant.found c.loop-row.invariant.after c.loop-row.invariant.least)
    (c.in_ok-enter.ensures (take c.loop-row.row-index c.args.rows.now) c.loop-row.invariant.after)

pub returns : goal.returns
returns c = judged_all c.args.rows.now c.loop-row.row-index c.loop-row.walk c.loop-row.best c.loop-row-test.false c.loop-row.invariant
