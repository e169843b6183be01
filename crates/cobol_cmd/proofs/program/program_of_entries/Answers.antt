use Rattle.std.proofs.Common.{subst, sym, Err}
use Rattle.cob_base.specs.declared.parse_fault.Misfit.TheVariants.{Nesting, NoFit}
use Rattle.division_parser.specs.Answer.{Answers}
use Rattle.cobol_cmd.specs.Checking.{IsNoProgram}
use Rattle.cobol_cmd.proofs.Checks.{no_front}
use Rattle.cobol_cmd.proofs.program.program_of_entries.Goals as goal

-- src/program.rt:88:1
pub returns-in-Err-Nesting-clause-fault : goal.returns-in-Err-Nesting-clause-fault
returns-in-Err-Nesting-clause-fault c =
    subst (IsNoProgram c.args.entries.now Nesting) (sym c.in-Err-Nesting.line-is)
    (no_front c.args.entries.now Nesting c.in-Err-Nesting.line
    (subst (λ fault. Answers c.args.entries.now (Err fault)) c.in-Err-Nesting.field-0-is c.in-Err-Nesting.ensures))

-- src/program.rt:88:1
pub returns-in-Err-NoEntry-clause-fault : goal.returns-in-Err-NoEntry-clause-fault
returns-in-Err-NoEntry-clause-fault c =
    subst (IsNoProgram c.args.entries.now NoFit) (sym c.in-Err-NoEntry.line-is)
    (no_front c.args.entries.now NoFit c.in-Err-NoEntry.line
    (subst (λ fault. Answers c.args.entries.now (Err fault)) c.in-Err-NoEntry.field-0-is c.in-Err-NoEntry.ensures))
