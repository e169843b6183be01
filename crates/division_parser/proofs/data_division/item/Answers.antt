use Rattle.cob_base.specs.DataEntries.{data_entry}
use Rattle.cob_base.specs.Front.{item}
use Rattle.phrase_parser.specs.Reading.{read}
use Rattle.division_parser.proofs.data_division.item.Goals as goal

pub returns : goal.returns
unfolding item
returns c = c.entry.ensures (λ line. read (data_entry line)) (record { gives = λ alloc line w r h. h.2 })
