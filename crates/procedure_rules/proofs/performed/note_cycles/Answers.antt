use Rattle.std.proofs.Common.{◌∙◌}
use Rattle.procedure_rules.specs.SeenMarks.{marked_from}
use Rattle.procedure_rules.proofs.Arrows.{cycles_within, cycles_told}
use Rattle.procedure_rules.proofs.performed.note_cycles.Goals as goal

pub on_cycles-requires : goal.on_cycles-requires
on_cycles-requires c =
    cycles_within c.args.scope.now.program.now.paragraphs c.as_slice-paragraphs.result.now c.as_slice.result.now c.as_slice-paragraphs.ensures (c.as_slice.ensures.value ∙ c.in_ok-arrows.ensures)

pub returns : goal.returns
returns c = (
  marked_from c.as_slice-2.result.now 0 c.as_slice-paragraphs.result.now,
  cycles_told c.args.scope.now.program.now.paragraphs c.as_slice-paragraphs.result.now c.as_slice.result.now c.in_ok-marks.marks.items c.as_slice-2.result.now c.as_slice-paragraphs.ensures
      (c.as_slice.ensures.value ∙ c.in_ok-arrows.ensures) c.in_ok-marks.ensures c.as_slice-2.ensures.value,
  c.in_ok-note_marked.ensures,
)
