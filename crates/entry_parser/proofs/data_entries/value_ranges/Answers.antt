use Rattle.cob_base.specs.Form.{opens}
use Rattle.cob_base.specs.DataEntries.{value_range}
use Rattle.phrase_parser.specs.Reading.{read}
use Rattle.entry_parser.proofs.data_entries.value_ranges.Goals as goal

pub returns : goal.returns
returns c = c.some.ensures (opens value_range) (read value_range) (record { tells = λ w r h. h }) (record { gives = λ alloc w r h. h.1 })
