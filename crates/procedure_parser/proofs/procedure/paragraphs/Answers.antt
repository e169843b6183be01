use Rattle.cob_base.specs.EntryForm.{begins}
use Rattle.cob_base.specs.Procedure.{paragraph}
use Rattle.phrase_parser.specs.EntryReading.{read_entries}
use Rattle.phrase_parser.specs.Reading.{read_many}
use Rattle.procedure_parser.proofs.procedure.paragraphs.Goals as goal

pub returns : goal.returns
unfolding read_many
returns c = c.many_entries.ensures (begins paragraph) (read_entries paragraph) (record { tells = λ es r h. h }) (record { gives = λ alloc es r h. h.1 })
