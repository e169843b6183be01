use Rattle.reference_format.proofs.Cutting.{return_kept, return_cut}
use Rattle.reference_format.proofs.lines.without_return.Goals as goal

pub returns-then-line-last-ne13 : goal.returns-then-line-last-ne13
returns-then-line-last-ne13 c = return_kept c.args.line.now c.if-line-last-ne13.true

pub returns : goal.returns
returns c = return_cut c.args.line.now c.if-line-last-ne13.false
