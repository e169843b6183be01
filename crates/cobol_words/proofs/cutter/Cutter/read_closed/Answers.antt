use Rattle.cobol_words.specs.declared.cutter.Stage.TheVariants as stages
use Rattle.cobol_words.proofs.Quotes.{opens_again}
use Rattle.cobol_words.proofs.Stages.{on_ok, moved}
use Rattle.cobol_words.proofs.cutter.Cutter.read_closed.Goals as goal

pub returns-then-cell-mark-clause-kept : goal.returns-then-cell-mark-clause-kept
returns-then-cell-mark-clause-kept c =
    on_ok c.push.result (λ e. moved (stages.Literal c.args.mark) _ c.args.self.now.before _ _ _ c.push.ensures.stage c.push.ensures.before e
    (opens_again c.args.mark c.args.self.now.before c.args.self.now.cells.items c.args.cell c.requires.closed c.if-cell-mark.true)) c.push.ensures.cells
