use Rattle.data_layout.proofs.Bests.{strays_more}
use Rattle.data_layout.proofs.least.least_stray.Goals as goal

pub loop-line-preserved : goal.loop-line-preserved
loop-line-preserved c = strays_more c.args.strays.now c.loop-line.line-index _ _ c.loop-line-test.true (c.note-best.ensures _ c.loop-line.invariant)
