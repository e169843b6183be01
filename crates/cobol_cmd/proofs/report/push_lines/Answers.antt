use Rattle.cobol_cmd.proofs.Lines.{one_line}
use Rattle.cobol_cmd.proofs.report.push_lines.Goals as goal

pub loop-number-preserved : goal.loop-number-preserved
loop-number-preserved c = one_line _ _ _ c.args.cells.now c.loop-number.number c.loop-number-test.true c.in_ok-push_line.ensures c.loop-number.invariant
