use Rattle.std.proofs.Common.{length, ap, arith}
use Rattle.cobol_words.proofs.Trims.{length-trimmed}
use Rattle.cobol_words.proofs.joining.fill.Goals as goal

pub overflow_sub-end : goal.overflow_sub-end
overflow_sub-end c =
    let within = length-trimmed c.as_bytes-text.result.now in
    let same = ap length c.trimmed.ensures in
    omega (arith, within, same, c.max-end.ensures)
