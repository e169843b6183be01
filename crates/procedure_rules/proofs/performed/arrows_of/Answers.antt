use Rattle.std.proofs.Common.{◌∙◌, ap}
use Rattle.std.proofs.lemmas.List.{take_all}
use Rattle.procedure_rules.specs.Performed.{arrows_from}
use Rattle.procedure_rules.proofs.Arrows.{arrows_more}
use Rattle.procedure_rules.proofs.performed.arrows_of.Goals as goal

pub loop-number-preserved : goal.loop-number-preserved
loop-number-preserved c =
    arrows_more c.args.scope.now.program.now.paragraphs c.args.paragraphs.now c.loop-number.number c.index-paragraphs-number.result c.loop-number.arrows.items c.add_arrows.new.arrows.items
    c.loop-number-test.true c.index-paragraphs-number.is c.loop-number.invariant c.in_ok-add_arrows.ensures

pub returns : goal.returns
returns c = c.loop-number.invariant ∙ ap (arrows_from c.args.scope.now.program.now.paragraphs 0) (take_all c.loop-number.number c.args.paragraphs.now c.loop-number-test.false)
