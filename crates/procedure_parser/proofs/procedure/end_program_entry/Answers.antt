use Rattle.cob_base.specs.Procedure.{end_program}
use Rattle.phrase_parser.specs.Reading.{read}
use Rattle.procedure_parser.proofs.procedure.end_program_entry.Goals as goal

pub returns : goal.returns
returns c = c.entry.ensures (λ line. read (end_program line)) (record { gives = λ alloc line w r h. h.2 })
