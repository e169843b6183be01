use Rattle.cob_base.specs.Procedure.{header}
use Rattle.phrase_parser.specs.Reading.{read}
use Rattle.procedure_parser.proofs.procedure.header_entry.Goals as goal

pub returns : goal.returns
returns c = c.entry.ensures (λ line. read (header line)) (record { gives = λ alloc line w r h. h.2 })
