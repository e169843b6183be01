use Rattle.cob_base.specs.Front.{item}
use Rattle.cob_base.specs.EntryForm.{begins}
use Rattle.phrase_parser.specs.EntryReading.{read_entries}
use Rattle.division_parser.proofs.data_division.some_items.Goals as goal

pub returns : goal.returns
returns c = c.some_entries.ensures (begins item) (read_entries item) (record { tells = λ es r h. h }) (record { gives = λ alloc es r h. h.1 })
