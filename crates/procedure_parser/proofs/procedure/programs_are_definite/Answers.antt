use Rattle.cob_base.specs.Procedure.{procedure, program}
use Rattle.procedure_parser.proofs.ProcedureAnswers.{is_definite}
use Rattle.procedure_parser.proofs.procedure.programs_are_definite.Goals as goal

pub returns : goal.returns
returns c =
    let laws = c.entries_are_definite.ensures in
    record { procedures = is_definite procedure laws.procedures; programs = is_definite program laws.programs }
