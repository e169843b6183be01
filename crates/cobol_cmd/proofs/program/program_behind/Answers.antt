use Rattle.std.proofs.Common.{subst, sym, take, drop, length, ◌-◌, Err}
use Rattle.cob_base.specs.declared.parse_fault.Misfit.TheVariants.{Nesting, NoFit}
use Rattle.procedure_parser.specs.Answer.{Answers, StopsAs}
use Rattle.cobol_cmd.specs.Checking.{IsNoProgram}
use Rattle.cobol_cmd.proofs.Checks.{all_behind, with_division, no_program}
use Rattle.cobol_cmd.proofs.program.program_behind.Goals as goal

-- src/program.rt:77:1
pub returns-in-Ok-clause-program : goal.returns-in-Ok-clause-program
returns-in-Ok-clause-program c = with_division c.args.entries.now c.args.read _ _ c.requires c.in-Ok.ensures c.with_front.ensures

-- src/program.rt:77:1
pub returns-in-Err-Nesting-clause-fault : goal.returns-in-Err-Nesting-clause-fault
returns-in-Err-Nesting-clause-fault c =
    subst (IsNoProgram c.args.entries.now Nesting) (sym c.in-Err-Nesting.line-is)
    (no_program c.programs_are_definite.ensures.procedures c.args.entries.now c.args.read Nesting c.in-Err-Nesting.line c.requires
    (subst (λ es. StopsAs es Nesting c.in-Err-Nesting.line) (all_behind c.args.entries.now c.args.read.used)
    (subst (λ fault. Answers (take (length c.args.entries.now - c.args.read.used) (drop c.args.read.used c.args.entries.now)) (Err fault))
    c.in-Err-Nesting.field-0-is c.in-Err-Nesting.ensures)))

-- src/program.rt:77:1
pub returns-in-Err-NoEntry-clause-fault : goal.returns-in-Err-NoEntry-clause-fault
returns-in-Err-NoEntry-clause-fault c =
    subst (IsNoProgram c.args.entries.now NoFit) (sym c.in-Err-NoEntry.line-is)
    (no_program c.programs_are_definite.ensures.procedures c.args.entries.now c.args.read NoFit c.in-Err-NoEntry.line c.requires
    (subst (λ es. StopsAs es NoFit c.in-Err-NoEntry.line) (all_behind c.args.entries.now c.args.read.used)
    (subst (λ fault. Answers (take (length c.args.entries.now - c.args.read.used) (drop c.args.read.used c.args.entries.now)) (Err fault))
    c.in-Err-NoEntry.field-0-is c.in-Err-NoEntry.ensures)))
