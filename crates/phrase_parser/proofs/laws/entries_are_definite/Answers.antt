use Rattle.cob_base.specs.Front.{front}
use Rattle.cob_base.specs.Procedure.{procedure, program}
use Rattle.phrase_parser.proofs.EntryLaws.{is_definite}
use Rattle.phrase_parser.proofs.laws.entries_are_definite.Goals as goal

pub returns : goal.returns
returns c = record { fronts = is_definite front; procedures = is_definite procedure; programs = is_definite program }
