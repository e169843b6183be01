use Rattle.cob_base.specs.Front.{crt_status}
use Rattle.phrase_parser.specs.Reading.{read}
use Rattle.division_parser.proofs.environment_division.crt_status_entry.Goals as goal

pub returns : goal.returns
returns c = c.entry.ensures (λ line. read (crt_status line)) (record { gives = λ alloc line w r h. h.2 })
