-- The fault of entries that stop, as the code makes it.
use Rattle.std.specs.Prelude.{Option, Some, None}
use Rattle.cob_base.specs.declared.line.Line.{Line}
use Rattle.cob_base.specs.declared.parse_fault.Misfit.{Misfit}
use Rattle.cob_base.specs.declared.parse_fault.Misfit.TheVariants.{Nesting, NoFit}
use Rattle.cob_base.specs.declared.parse_fault.ParseFault.{ParseFault}
use Rattle.cob_base.specs.declared.parse_fault.ParseFault.TheVariants as faults
use Rattle.cob_base.specs.EntryForm.{Entries, last_line}

-- the line of the entry where they stop, or that of the last entry
abbrev pub line_or_last : Entries → Option Line → Line
line_or_last es (Some line) = line
line_or_last es None = last_line es

abbrev pub fault_for : Misfit → Line → ParseFault
fault_for Nesting line = faults.Nesting line
fault_for NoFit line = faults.NoEntry line

abbrev pub fault_of : Entries → Misfit → Option Line → ParseFault
fault_of es reason line = fault_for reason (line_or_last es line)
