use Rattle.cob_base.specs.EntryForm.EntryForm.{entry}
use Rattle.cob_base.specs.FileEntries.{select}
use Rattle.cob_base.specs.EntryForm.{begins}
use Rattle.phrase_parser.specs.EntryReading.{read_entries}
use Rattle.phrase_parser.specs.Reading.{read_many}
use Rattle.division_parser.proofs.environment_division.selects.Goals as goal

pub returns : goal.returns
unfolding read_many
returns c = c.many_entries.ensures (begins (entry select)) (read_entries (entry select)) (record { tells = λ es r h. h }) (record { gives = λ alloc es r h. h.1 })
