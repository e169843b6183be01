use Rattle.std.proofs.Common.{sym, arith}
use Rattle.std.proofs.lemmas.List.{take_all, length-take-le}
use Rattle.reference_format.proofs.columns.columns.Goals as goal

pub slice_bounds-result-end : goal.slice_bounds-result-end
slice_bounds-result-end c = sym (length-take-le 72 c.args.line.now (omega arith))

pub returns-then-line-le72 : goal.returns-then-line-le72
returns-then-line-le72 c = rw c.if-not-fixed.false (sym (take_all 72 c.args.line.now (omega arith)))
