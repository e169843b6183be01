use Rattle.cob_base.specs.Front.{screen}
use Rattle.cob_base.specs.EntryForm.{begins}
use Rattle.phrase_parser.specs.EntryReading.{read_entries}
use Rattle.phrase_parser.specs.Reading.{read_many}
use Rattle.division_parser.proofs.data_division.screens.Goals as goal

pub returns : goal.returns
unfolding read_many
returns c = c.many_entries.ensures (begins screen) (read_entries screen) (record { tells = λ es r h. h }) (record { gives = λ alloc es r h. h.1 })
