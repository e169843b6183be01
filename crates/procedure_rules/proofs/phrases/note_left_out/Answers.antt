use Rattle.procedure_rules.proofs.NotedLines.{noted_lines}
use Rattle.procedure_rules.proofs.phrases.note_left_out.Goals as goal

pub returns : goal.returns
returns c = noted_lines 10 _ _ _ _ _ c.in_ok-note_outside_statements.ensures c.in_ok-note_outside_in.ensures
