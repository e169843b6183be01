use Rattle.std.proofs.Common.{◌∙◌, sym}
use Rattle.std.proofs.lemmas.Bool.{ne_eqb, and_right}
use Rattle.cobol_words.specs.declared.cutter.Stage.TheVariants as stages
use Rattle.cobol_words.proofs.Stages.{on_ok, moved, outside_push}
use Rattle.cobol_words.proofs.cutter.Cutter.read_outside.Goals as goal

pub returns-clause-kept : goal.returns-clause-kept
returns-clause-kept c =
    let self = c.args.self.now in
    on_ok c.push.result (λ e. moved stages.Outside _ self.before _ _ _ (c.push.ensures.stage ∙ c.requires.stage) c.push.ensures.before e
    (outside_push self.before self.cells.items c.args.cell c.requires.outside (ne_eqb _ _ c.if-cell-eq32.false) (and_right _ _ (ne_eqb _ _ c.if-cell-eq62.false)) (λ _. sym c.is_quote.ensures ∙ c.if-is_quote.false))) c.push.ensures.cells
