use Rattle.cob_base.specs.EntryForm.EntryForm.{entry}
use Rattle.cob_base.specs.EntryForm.{begins}
use Rattle.cob_base.specs.Procedure.{sentence, sentences_of}
use Rattle.phrase_parser.specs.EntryReading.{read_entries}
use Rattle.phrase_parser.specs.Reading.{read_many}
use Rattle.procedure_parser.proofs.procedure.sentences.Goals as goal

pub returns : goal.returns
unfolding read_many sentences_of
returns c = c.many_entries.ensures (begins (entry sentence)) (read_entries (entry sentence)) (record { tells = λ es r h. h }) (record { gives = λ alloc es r h. h.1 })
