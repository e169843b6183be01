use Rattle.cob_base.specs.Front.{item}
use Rattle.cob_base.specs.EntryForm.{begins}
use Rattle.phrase_parser.specs.EntryReading.{read_entries}
use Rattle.phrase_parser.specs.Reading.{read_many}
use Rattle.division_parser.proofs.data_division.items.Goals as goal

pub returns : goal.returns
unfolding read_many
returns c = c.many_entries.ensures (begins item) (read_entries item) (record { tells = λ es r h. h }) (record { gives = λ alloc es r h. h.1 })
