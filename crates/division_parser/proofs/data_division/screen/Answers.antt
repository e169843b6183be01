use Rattle.cob_base.specs.ScreenEntries.{screen_entry}
use Rattle.cob_base.specs.Front.{screen}
use Rattle.phrase_parser.specs.Reading.{read}
use Rattle.division_parser.proofs.data_division.screen.Goals as goal

pub returns : goal.returns
unfolding screen
returns c = c.entry.ensures (λ line. read (screen_entry line)) (record { gives = λ alloc line w r h. h.2 })
