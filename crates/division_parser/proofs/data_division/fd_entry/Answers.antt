use Rattle.cob_base.specs.Front.{fd_entry}
use Rattle.phrase_parser.specs.Reading.{read}
use Rattle.division_parser.proofs.data_division.fd_entry.Goals as goal

pub returns : goal.returns
returns c = c.entry.ensures (λ line. read (fd_entry line)) (record { gives = λ alloc line w r h. h.2 })
