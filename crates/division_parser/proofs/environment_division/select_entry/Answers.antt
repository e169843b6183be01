use Rattle.cob_base.specs.FileEntries.{select}
use Rattle.phrase_parser.specs.Reading.{read}
use Rattle.division_parser.proofs.environment_division.select_entry.Goals as goal

pub returns : goal.returns
returns c = c.entry.ensures (λ line. read (select line)) (record { gives = λ alloc line w r h. h.2 })
