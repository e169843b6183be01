use Rattle.std.proofs.Common.{◌∙◌, ◌++◌, ap}
use Rattle.std.proofs.lemmas.List.{take_all}
use Rattle.name_rules.specs.Faults.{faults_at}
use Rattle.procedure_rules.specs.SeenMarks.{marked_from}
use Rattle.procedure_rules.proofs.Arrows.{marked_more}
use Rattle.procedure_rules.proofs.performed.note_marked.Goals as goal

pub loop-number-preserved : goal.loop-number-preserved
loop-number-preserved c =
    marked_more c.args.marks.now c.args.paragraphs.now c.loop-number.number c.index-paragraphs-number.result c.mark_at.result c.args.faults.now.found.items c.loop-number.faults.found.items c.note.new.self.found.items
    c.loop-number-test.true c.index-paragraphs-number.is c.mark_at.ensures c.loop-number.invariant c.in_ok-note.ensures

pub returns : goal.returns
returns c =
    c.loop-number.invariant
    ∙ ap (λ some. c.args.faults.now.found.items ++ faults_at 8 (marked_from c.args.marks.now 0 some)) (take_all c.loop-number.number c.args.paragraphs.now c.loop-number-test.false)
