use Rattle.cob_base.specs.Procedure.{sentence}
use Rattle.phrase_parser.specs.Reading.{read}
use Rattle.procedure_parser.proofs.procedure.sentence_entry.Goals as goal

pub returns : goal.returns
returns c = c.entry.ensures (λ line. read (sentence line)) (record { gives = λ alloc line w r h. h.2 })
