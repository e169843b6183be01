use Rattle.std.proofs.Common.{subst, ◌++◌, ◌∷◌, []}
use Rattle.cob_base.specs.declared.paragraphs.Paragraph.{Paragraph}
use Rattle.procedure_names.specs.Firsts.{AreFirsts}
use Rattle.procedure_names.proofs.FirstsOf.{firsts_step, firsts_all}
use Rattle.procedure_names.proofs.scope.names_of_paragraphs.Goals as goal

pub loop-number-preserved : goal.loop-number-preserved
loop-number-preserved c =
    firsts_step (λ (paragraph : Paragraph). paragraph.name) c.args.paragraphs.now c.loop-number.number c.index-paragraphs-number.result c.loop-number.names c.add_optional.new.self c.loop-number-test.true c.index-paragraphs-number.is c.loop-number.invariant
    (λ names e h. subst (λ o. AreFirsts (names ++ o ∷ []) c.add_optional.new.self) c.name_of_paragraph.ensures (c.in_ok-add_optional.ensures names e h))

pub returns : goal.returns
returns c =
    firsts_all (λ (paragraph : Paragraph). paragraph.name) c.args.paragraphs.now c.loop-number.number c.loop-number.names c.loop-number-test.false c.loop-number.invariant
