-- The least fault so far.
use Rattle.std.specs.Prelude.{◌≡◌, List, [], Option, Some, None}
use Rattle.data_layout.specs.declared.fault.LayoutFault.{LayoutFault}
use Rattle.data_layout.specs.Faults.{IsLeast}

-- None where there is no fault
abbrev pub IsBest : List LayoutFault → Option LayoutFault → Type 0
IsBest all None = all ≡ []
IsBest all (Some fault) = IsLeast all fault
