use Rattle.cobol_cmd.proofs.Checks.{rule_broken}
use Rattle.cobol_cmd.proofs.program.read_program.Goals as goal

pub returns-in-Err-Reason-clause-fault : goal.returns-in-Err-Reason-clause-fault
returns-in-Err-Reason-clause-fault c =
    rule_broken _ _ _ _ _ _ _ c.in_ok-program.ensures.program c.in-Err-Reason.field-0-is c.in-Err-Reason.line-is c.in-Err-Reason.reason-is c.in-Err-Reason.ensures.refused
