-- The names that are taken, and the faults so far.
use Rattle.std.proofs.Common.{◌≡◌, ◌++◌, [], take}
use Rattle.cob_base.specs.declared.paragraphs.Paragraph.{Paragraph}
use Rattle.name_rules.specs.Faults.{faults_at}
use Rattle.name_rules.specs.NameKeys.{AreKeys}
use Rattle.procedure_names.specs.DoubleParagraphs.{is_taken}
use Rattle.procedure_names.specs.SeenNames.{taken_names}
use Rattle.procedure_names.proofs.Noted.{tested_after}
use Rattle.procedure_names.proofs.double_paragraphs.note_double_paragraphs.Given as goal

abbrev pub invariant-loop-paragraph : goal.invariant-loop-paragraph
invariant-loop-paragraph l =
    AreKeys (taken_names l.program.front (take l.paragraph-index l.program.paragraphs)) l.names
    × (l.faults.found.items ≡ l.initial.faults.found.items
    ++ faults_at 3 (tested_after (λ (paragraph : Paragraph). paragraph.line) (λ before paragraph. is_taken l.program.front before paragraph.name) [] (take l.paragraph-index l.program.paragraphs)))
