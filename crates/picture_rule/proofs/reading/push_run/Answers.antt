use Rattle.picture_rule.proofs.Extends.{pushed}
use Rattle.picture_rule.proofs.reading.push_run.Goals as goal

pub loop-preserved : goal.loop-preserved
loop-preserved c = pushed _ _ _ _ _ c.loop.invariant c.in_ok-push_symbol.ensures
