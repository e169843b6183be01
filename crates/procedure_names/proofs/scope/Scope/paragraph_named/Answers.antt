use Rattle.std.proofs.Common.{◌∙◌, map}
use Rattle.cob_base.specs.declared.paragraphs.Paragraph.{Paragraph}
use Rattle.procedure_names.proofs.ScopeOf.{paragraph_by}
use Rattle.procedure_names.proofs.scope.Scope.paragraph_named.Goals as goal

pub returns : goal.returns
returns c =
    let all = c.args.self.now.program.now.paragraphs in
    c.in_ok-number.ensures (map (λ (paragraph : Paragraph). paragraph.name) all) c.requires.paragraphs ∙ paragraph_by all c.args.name.now
