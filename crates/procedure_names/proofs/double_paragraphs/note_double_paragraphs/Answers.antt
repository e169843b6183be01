use Rattle.procedure_names.proofs.Taken.{taken_step, taken_all}
use Rattle.procedure_names.proofs.double_paragraphs.note_double_paragraphs.Goals as goal

pub loop-paragraph-preserved : goal.loop-paragraph-preserved
loop-paragraph-preserved c =
    taken_step c.args.program.now.front c.args.program.now.paragraphs c.as_slice-paragraph-items.result.now c.as_slice-paragraph-items.ensures c.loop-paragraph.paragraph-index c.paragraph-item.result c.in_ok-is_taken.is_taken
    c.loop-paragraph.names c.take.new.names c.args.faults.now.found.items c.loop-paragraph.faults.found.items c.note.new.self.found.items c.loop-paragraph-test.true c.paragraph-item.is c.loop-paragraph.invariant
    c.in_ok-is_taken.ensures c.in_ok-note.ensures

pub returns : goal.returns
returns c =
    taken_all c.args.program.now.front c.args.program.now.paragraphs c.as_slice-paragraph-items.result.now c.as_slice-paragraph-items.ensures c.loop-paragraph.paragraph-index c.args.faults.now.found.items
    c.loop-paragraph.faults.found.items c.loop-paragraph-test.false c.loop-paragraph.invariant.1
