-- The names so far.
use Rattle.std.proofs.Common.{take, map}
use Rattle.cob_base.specs.declared.paragraphs.Paragraph.{Paragraph}
use Rattle.procedure_names.specs.Firsts.{AreFirsts}
use Rattle.procedure_names.proofs.scope.names_of_paragraphs.Given as goal

abbrev pub invariant-loop-number : goal.invariant-loop-number
invariant-loop-number l = AreFirsts (map (λ (paragraph : Paragraph). paragraph.name) (take l.number l.paragraphs)) l.names
