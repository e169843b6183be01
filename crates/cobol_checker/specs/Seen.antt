-- A checked program as contracts see it.
use Rattle.cobol_checker.specs.declared.checking.Checked.{Checked}
use Rattle.cobol_checker.specs.Outcome.{CheckedValue}

abbrev pub seen_checked : Checked → CheckedValue
seen_checked checked = record { program = checked.program; layout = checked.layout; screens = checked.screens; shapes = checked.shapes }
