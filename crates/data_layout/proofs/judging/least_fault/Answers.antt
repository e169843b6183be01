use Rattle.std.proofs.Common.{map, refl, take, length, ◌+◌, arith}
use Rattle.std.proofs.lemmas.Slice.{between_to_end}
use Rattle.data_layout.specs.declared.fault.LayoutFault.TheVariants.{BadLevel}
use Rattle.data_layout.proofs.JudgedRows.{judged_more, judged_all}
use Rattle.data_layout.proofs.judging.least_fault.Goals as goal

pub loop-at-init : goal.loop-at-init
loop-at-init c = (map BadLevel c.args.strays.now, record { walk = c.new.ensures; sized = refl; best = c.least_stray.ensures }, refl)

pub loop-at-preserved : goal.loop-at-preserved
loop-at-preserved c = judged_more _ c.args.rows.now c.loop-at.at _ c.judge.new.self c.loop-at.invariant.0 _ c.loop-at-test.true (between_to_end c.args.rows.now (c.loop-at.at + 1) (length c.args.rows.now) (omega arith)) c.loop-at.invariant.2
    (c.in_ok-judge.ensures (take c.loop-at.at c.args.rows.now) c.loop-at.invariant.0 c.loop-at.invariant.1)

pub returns : goal.returns
returns c = judged_all _ c.args.rows.now c.loop-at.at c.loop-at.judge c.loop-at.invariant.0 c.loop-at-test.false c.loop-at.invariant.2 c.loop-at.invariant.1
