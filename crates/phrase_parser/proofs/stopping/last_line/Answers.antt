use Rattle.std.proofs.Common.{◌-◌, length, ap, ◌∙◌, arith}
use Rattle.phrase_parser.proofs.LastEntry.{last_at}
use Rattle.phrase_parser.proofs.stopping.last_line.Goals as goal

pub returns-in-len1-up : goal.returns-in-len1-up
returns-in-len1-up c = ap (λ e. e.line) c.last-item.is ∙ last_at c.args.entries.now (length c.args.entries.now - 1) _ (omega (arith, c.in-len1-up.len_at_least))
