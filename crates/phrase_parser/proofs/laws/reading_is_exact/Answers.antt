use Rattle.cob_base.specs.Front.{front}
use Rattle.cob_base.specs.Procedure.{procedure, program}
use Rattle.phrase_parser.proofs.EntryLaws.{is_exact}
use Rattle.phrase_parser.proofs.laws.reading_is_exact.Goals as goal

pub returns : goal.returns
returns c = record { fronts = is_exact front; procedures = is_exact procedure; programs = is_exact program }
