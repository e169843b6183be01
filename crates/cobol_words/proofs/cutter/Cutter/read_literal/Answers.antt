use Rattle.std.proofs.Common.{◌∙◌}
use Rattle.cobol_words.specs.declared.cutter.Stage.TheVariants as stages
use Rattle.cobol_words.proofs.Quotes.{closes, stays_open}
use Rattle.cobol_words.proofs.Stages.{on_ok, moved}
use Rattle.cobol_words.proofs.cutter.Cutter.read_literal.Goals as goal

pub returns-then-cell-mark-clause-kept : goal.returns-then-cell-mark-clause-kept
returns-then-cell-mark-clause-kept c =
    on_ok c.push.result (λ e. moved (stages.Closed c.args.mark) _ c.args.self.now.before _ _ _ c.push.ensures.stage c.push.ensures.before e
    (closes c.args.mark c.args.self.now.before c.args.self.now.cells.items c.args.cell c.requires.literal c.if-cell-mark.true)) c.push.ensures.cells

pub returns-clause-kept : goal.returns-clause-kept
returns-clause-kept c =
    on_ok c.push-2.result (λ e. moved (stages.Literal c.args.mark) _ c.args.self.now.before _ _ _ (c.push-2.ensures.stage ∙ c.requires.stage) c.push-2.ensures.before e
    (stays_open c.args.mark c.args.self.now.before c.args.self.now.cells.items c.args.cell c.requires.literal c.if-cell-mark.false)) c.push-2.ensures.cells
