use Rattle.std.proofs.Common.{◌∙◌, ap, map}
use Rattle.std.specs.Prelude.{is_some}
use Rattle.cob_base.specs.declared.paragraphs.Paragraph.{Paragraph}
use Rattle.procedure_names.proofs.ScopeOf.{paragraph_by}
use Rattle.procedure_names.proofs.scope.Scope.is_paragraph.Goals as goal

pub returns : goal.returns
returns c =
    let all = c.args.self.now.program.now.paragraphs in
    c.is_some.ensures ∙ ap is_some (c.in_ok-number.ensures (map (λ (paragraph : Paragraph). paragraph.name) all) c.requires.paragraphs ∙ paragraph_by all c.args.name.now)
