use Rattle.std.proofs.Common.{◌∙◌}
use Rattle.picture_rule.proofs.Fronts.{front_shorter}
use Rattle.picture_rule.proofs.Extends.{goes_on, all_out}
use Rattle.picture_rule.proofs.reading.write_out.Goals as goal

pub loop-run-smaller : goal.loop-run-smaller
loop-run-smaller c = front_shorter _ _ _ _ c.in-Some.ensures.found.2

pub loop-run-preserved : goal.loop-run-preserved
loop-run-preserved c = goes_on _ _ _ _ _ _ _ _ c.loop-run.invariant c.in-Some.ensures.found.1 c.in-Some.ensures.found.2 c.in_ok-push_run.ensures

pub returns : goal.returns
returns c marks w small = c.from_vec.ensures ∙ all_out _ _ _ c.loop-run.invariant c.in_default.ensures.none marks w small
